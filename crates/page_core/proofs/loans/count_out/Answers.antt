use Rattle.std.proofs.Common.{◌∙◌, ◌+◌, ap, arith, cond, filter, length, sym, take}
use Rattle.std.proofs.lemmas.List.Filters.{length-filter_more}
use Rattle.reports.specs.Terms.{agreement_with, is_out}
use Rattle.page_core.proofs.loans.count_out.Goals as goal
use Rattle.page_core.proofs.loans.count_out.Goals.{then-is_out, else-is_out}

pub loop-i-preserved : goal.loop-i-preserved
loop-i-preserved c =
    let test = is_out c.args.ledger.now (agreement_with c.args.terms.now) in
    let objects = c.args.terms.now.objects.now in
    let next = length-filter_more test objects c.loop-i.i c.index-terms-i.result
    c.loop-i-test.true in
    let before = length (filter test (take c.loop-i.i objects)) in
    elim c.if-is_out.branch [
      | then-is_out w ↦
          let more = next
          ∙ ap (λ b. before + cond b 1 0) (sym c.is_out.ensures ∙ w.if-is_out.true) in (
            omega (arith, more, c.loop-i.invariant.0, w.count-is),
            omega (arith, c.loop-i.invariant.1, w.count-is),
          )
      | else-is_out w ↦
          let more = next
          ∙ ap (λ b. before + cond b 1 0) (sym c.is_out.ensures ∙ w.if-is_out.false) in (
            omega (arith, more, c.loop-i.invariant.0, w.count-is),
            omega (arith, c.loop-i.invariant.1, w.count-is),
          )
    ]
