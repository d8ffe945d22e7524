use Rattle.std.proofs.Common.{sym, subst, refl}
use Rattle.station_core.specs.Runs.{Arrived, arrived}
use Rattle.posting_core.specs.declared.entry.Changes.{Changes}
use Rattle.posting_core.specs.declared.message.Message.{Message}
use Rattle.posting_core.specs.Lawful.{Follows}
use Rattle.hub_core.proofs.StoreLemmas.{entry_with, either_of}
use Rattle.hub_core.proofs.ReopenLemmas.{unposted}
use Rattle.hub_core.proofs.Written.{on_err}
use Rattle.hub_core.proofs.hub.posting.post_next.Goals as goal

pub returns-in_err-changes-clause-left : goal.returns-in_err-changes-clause-left
returns-in_err-changes-clause-left g c =
    let r : Arrived Message = arrived c.args.station c.args.n c.args.message in
    let L = c.args.ledger.now in
    let store = g.R.Register.holding c.args.register.now in
    on_err _ (unposted store store L L r c.is_lawful.ensures c.requires.follows refl
    (either_of store L r))

pub post_entry-requires-clause-follows : goal.post_entry-requires-clause-follows
post_entry-requires-clause-follows g c =
    let r : Arrived Message = arrived c.args.station c.args.n c.args.message in
    let L = c.args.ledger.now in
    subst (λ (x : Changes). Follows L.museum L.depth L.posted (entry_with r x))
    (sym c.in_ok-changes.ensures.ok) c.requires.follows
