use Rattle.std.proofs.Common.{◌∷◌, [], refl}
use Rattle.std.proofs.lemmas.Option.{slice_get_read}
use Rattle.count_core.proofs.Unflagged.{list_pushed}
use Rattle.count_core.proofs.unnamed.push_to.Goals as goal

pub returns-clause-each : goal.returns-clause-each
returns-clause-each c = λ q.
    list_pushed c.args.unnamed.now.items c.args.place c.index_mut-list.result.now c.push.new.self
    (c.args.thing ∷ []) q c.requires
    (slice_get_read _ _ _ _ refl c.requires c.index_mut-list.ensures.value)
    c.in_ok-push.ensures.items
