use Rattle.std.proofs.Common.{All, ap, filter, not, subst, sym, ◌∙◌}
use Rattle.std.proofs.lemmas.List.Elements.{All-filter}
use Rattle.count_core.specs.declared.answer.MissingObject.{MissingObject}
use Rattle.count_core.specs.Counts.{IsMissingIn}
use Rattle.count_core.specs.Sealed.{is_in_flagged}
use Rattle.count_core.proofs.Vouching.{flags_leave}
use Rattle.count_core.proofs.sealed.check_sealed.Goals as goal

pub returns-clause-missing : goal.returns-clause-missing
returns-clause-missing g c =
    let flags = c.in_ok-seen.seen.items in
    let left = rw (c.deref.ensures.value, c.deref-2.ensures.value) at c.in_ok-missing.ensures in
    left
    ∙ (ap (filter (λ (m : MissingObject). not (is_in_flagged c.args.ledger.now flags m.object)))
    c.in_ok-answers.ensures.missing
    ∙ flags_leave c.args.ledger.now c.args.rows.now flags c.in_ok-seen.ensures)

pub returns-clause-within : goal.returns-clause-within
returns-clause-within g c =
    let flags = c.in_ok-seen.seen.items in
    let left = rw (c.deref.ensures.value, c.deref-2.ensures.value) at c.in_ok-missing.ensures in
    subst (All (IsMissingIn c.args.ledger.now.museum)) (sym left)
    (All-filter (λ (m : MissingObject). not (is_in_flagged c.args.ledger.now flags m.object))
    (IsMissingIn c.args.ledger.now.museum) c.in_ok-answers.field-0.missing.items
    c.in_ok-answers.ensures.within)
