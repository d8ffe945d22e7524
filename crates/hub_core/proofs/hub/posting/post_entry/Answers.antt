use Rattle.hub_core.proofs.ReopenLemmas.{unstored, unapplied, posts}
use Rattle.hub_core.proofs.Written.{on_err}
use Rattle.hub_core.proofs.hub.posting.post_entry.Goals as goal

pub returns-in-Err-clause-left : goal.returns-in-Err-clause-left
returns-in-Err-clause-left g c =
    let r = c.requires in
    unstored _ _ c.args.ledger.now c.args.ledger.now c.args.entry.now c.args.changes.now r.lawful
    r.follows r.planned c.in-Err.ensures.failed

pub returns-in_err-apply-clause-left : goal.returns-in_err-apply-clause-left
returns-in_err-apply-clause-left g c =
    let r = c.requires in
    on_err _ (unapplied _ _ c.args.ledger.now c.apply.new.self c.args.entry.now c.args.changes.now
    r.lawful r.follows r.planned c.in_err-apply.ensures.err c.in_default.ensures.posted)

pub returns-clause-posted : goal.returns-clause-posted
returns-clause-posted g c =
    let r = c.requires in
    posts _ _ c.args.ledger.now c.apply.new.self c.args.entry.now c.args.changes.now r.lawful
    r.follows r.planned c.in_ok-apply.ensures.ok c.in_default.ensures.posted
