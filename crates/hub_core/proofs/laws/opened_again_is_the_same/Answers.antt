use Rattle.register_store.proofs.OneList.{one_list}
use Rattle.hub_core.proofs.laws.opened_again_is_the_same.Goals as goal

pub returns : goal.returns
returns g c S T register first second k opened again quiet held =
    let (before, was, step) = again.comes.from quiet k held in
    let stored = opened.stands.stored.each (again.comes.quiet quiet) before was in
    one_list second.book.posted first.book.posted before step.0 stored.list
