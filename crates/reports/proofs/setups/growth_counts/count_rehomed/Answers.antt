use Rattle.std.proofs.Common.{◌∷◌, [], ◌∙◌, ap, arith, length, length-append, sym}
use Rattle.std.specs.List.{filter, range_with_len}
use Rattle.reports.specs.GrowthTexts.{is_rehomed}
use Rattle.count_core.proofs.Ranges.{filter_with, filter_without}
use Rattle.reports.proofs.setups.growth_counts.count_rehomed.Goals.{then-is_rehomed}
use Rattle.reports.proofs.setups.growth_counts.count_rehomed.Goals.{else-is_rehomed}
use Rattle.reports.proofs.setups.growth_counts.count_rehomed.Goals as goal

pub loop-thing-preserved : goal.loop-thing-preserved
loop-thing-preserved c =
    let test = is_rehomed c.args.before.now c.args.after.now in
    let x = c.loop-thing.thing in
    elim c.if-is_rehomed.branch [
      | then-is_rehomed w ↦
          let more = ap length (filter_with test x
          (sym c.is_rehomed.ensures ∙ w.if-is_rehomed.true))
          ∙ length-append (filter test (range_with_len 0 x)) (x ∷ []) in (
            omega (arith, more, w.count-is, c.loop-thing.invariant.0),
            omega (arith, w.count-is, c.loop-thing.invariant.1),
          )
      | else-is_rehomed w ↦
          let same = ap length (filter_without test x
          (sym c.is_rehomed.ensures ∙ w.if-is_rehomed.false)) in (
            omega (arith, same, w.count-is, c.loop-thing.invariant.0),
            omega (arith, w.count-is, c.loop-thing.invariant.1),
          )
    ]
