use Rattle.std.proofs.Common.{◌≡◌, ◌∙◌, ◌+◌, ap, arith, cond, filter, length, sym, take}
use Rattle.std.proofs.lemmas.List.Filters.{length-filter_more}
use Rattle.reports.specs.LoanLists.{is_at}
use Rattle.reports.specs.Terms.{agreement_with}
use Rattle.reports.proofs.Passing.{filter_taken}
use Rattle.reports.proofs.reports.loans.count_lines.Goals as goal
use Rattle.reports.proofs.reports.loans.count_lines.Goals.{then-is_at, else-is_at}

pub overflow_add-count : goal.overflow_add-count
overflow_add-count c =
    let within = filter_taken (is_at c.args.ledger.now (agreement_with c.args.terms.now)
    c.args.phase) c.args.terms.now.objects.now c.loop-i.i c.loop-i-test.true in
    omega (arith, within, c.loop-i.invariant, c.loop-i-test.true)

pub loop-i-preserved : goal.loop-i-preserved
loop-i-preserved c =
    let test = is_at c.args.ledger.now (agreement_with c.args.terms.now) c.args.phase in
    let objects = c.args.terms.now.objects.now in
    let next = length-filter_more test objects c.loop-i.i c.index-terms-i.result
    c.loop-i-test.true in
    let before = length (filter test (take c.loop-i.i objects)) in
    let none : before + 0 ≡ before = omega arith in
    elim c.if-is_at.branch [
      | then-is_at w ↦
          w.count-is ∙ (ap (λ n. n + 1) c.loop-i.invariant ∙ sym (next
          ∙ ap (λ b. before + cond b 1 0) (sym c.is_at.ensures ∙ w.if-is_at.true)))
      | else-is_at w ↦
          w.count-is ∙ (c.loop-i.invariant ∙ sym (next
          ∙ (ap (λ b. before + cond b 1 0) (sym c.is_at.ensures ∙ w.if-is_at.false) ∙ none)))
    ]
