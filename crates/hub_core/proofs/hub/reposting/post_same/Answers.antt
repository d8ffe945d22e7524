use Rattle.std.proofs.Common.{◌∙◌, ap, sym}
use Rattle.std.proofs.lemmas.Bool.{false≢true}
use Rattle.posting_core.specs.declared.entry.Changes.{Changes}
use Rattle.hub_core.proofs.OpenLemmas.{judged_follows}
use Rattle.hub_core.proofs.hub.reposting.post_same.Goals as goal

pub returns-then-not-is_same-clause-cause : goal.returns-then-not-is_same-clause-cause
returns-then-not-is_same-clause-cause c = (
  sym c.next_number.ensures,
  λ follows. false≢true (sym c.if-not-is_same.true ∙ c.is_same.ensures.1
      (ap (λ (x : Changes). x.verdict) c.requires.planned ∙ sym follows.judged)),
)

pub apply-requires-clause-follows : goal.apply-requires-clause-follows
apply-requires-clause-follows c =
    judged_follows c.args.ledger.now c.args.entry.now c.args.changes.now c.requires.sent
    c.requires.planned (c.is_same.ensures.0 c.if-not-is_same.false)

pub returns-clause-follows : goal.returns-clause-follows
returns-clause-follows c = judged_follows c.args.ledger.now c.args.entry.now c.args.changes.now
    c.requires.sent c.requires.planned (c.is_same.ensures.0 c.if-not-is_same.false)
