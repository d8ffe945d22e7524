use Rattle.std.proofs.Common.{ap}
use Rattle.register_store.specs.Plain.{Kept, in_memory}
use Rattle.hub_core.proofs.RunLemmas.{session_not_opened, opened_fresh, fresh_without}
use Rattle.hub_core.proofs.hub.session.Hub+NoStore.session.Goals as goal

pub returns-in-Ok-clause-fresh : goal.returns-in-Ok-clause-fresh
returns-in-Ok-clause-fresh c =
    fresh_without in_memory c.args.setup c.in-Ok.hub c.without_store.result
    (opened_fresh c.args.setup c.new.result c.in-Ok.hub
    (ap (λ (k : Kept). k.content) c.new.ensures) c.in-Ok.ensures.opened)
    c.without_store.ensures.sequences c.without_store.ensures.book
    c.without_store.ensures.down

pub returns-in-Err-clause-fault : goal.returns-in-Err-clause-fault
returns-in-Err-clause-fault c =
    session_not_opened c.args.setup c.new.result c.in-Err.failed.register
    c.in-Err.failed.fault (ap (λ (k : Kept). k.content) c.new.ensures)
    c.in-Err.ensures.refused c.in-Err.ensures.counted
