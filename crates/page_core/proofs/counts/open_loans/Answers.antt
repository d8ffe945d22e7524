use Rattle.std.proofs.Common.{[], ap, arith, cond, filter, length, sym, take, ◌+◌, ◌<◌, ◌∙◌}
use Rattle.std.proofs.lemmas.List.Filters.{length-filter_more}
use Rattle.std.proofs.lemmas.Option.{get_or_from_slice_get}
use Rattle.posting_core.specs.Book.{loans_in}
use Rattle.reports.specs.LoanLists.{is_open}
use Rattle.page_core.proofs.counts.open_loans.Goals as goal
use Rattle.page_core.proofs.counts.open_loans.Goals.{then-is_open, else-is_open}

pub loop-i-preserved : goal.loop-i-preserved
loop-i-preserved c =
    let test = is_open c.args.ledger.now in
    let loans = loans_in c.args.ledger.now in
    let less : c.loop-i.i < length loans =
    omega (arith, c.loop-i-test.true, c.loan_count-i-end.ensures) in
    let next = length-filter_more test loans c.loop-i.i [] less in
    let at = get_or_from_slice_get loans c.loop-i.i c.loan_at.result [] c.loan_at.ensures.loan in
    let before = length (filter test (take c.loop-i.i loans)) in
    elim c.if-is_open.branch [
      | then-is_open w ↦
          let more = next ∙ ap (λ b. before + cond b 1 0)
          (ap test at ∙ (sym c.is_open.ensures ∙ w.if-is_open.true)) in (
            omega (arith, more, c.loop-i.invariant.0, w.count-is),
            omega (arith, c.loop-i.invariant.1, w.count-is),
          )
      | else-is_open w ↦
          let more = next ∙ ap (λ b. before + cond b 1 0)
          (ap test at ∙ (sym c.is_open.ensures ∙ w.if-is_open.false)) in (
            omega (arith, more, c.loop-i.invariant.0, w.count-is),
            omega (arith, c.loop-i.invariant.1, w.count-is),
          )
    ]
