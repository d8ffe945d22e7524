use Rattle.std.proofs.Common.{◌∙◌, ap, sym, arith, length, Some, ◌<◌}
use Rattle.seal_core.specs.HeadBuilder.{Holds}
use Rattle.seal_core.proofs.Heads.{head_of-nil}
use Rattle.seal_core.proofs.PeakLemmas.{head_over-one, head_over-zero, head_over-end}
use Rattle.seal_core.proofs.builder.HeadBuilder.head.Goals as goal
use Rattle.seal_core.proofs.builder.HeadBuilder.head.Goals.{then-rest-eq1, else-rest-eq1}

pub peaks-preserved : goal.peaks-preserved
peaks-preserved c =
    let peaks = c.args.self.now.peaks in
    let head = c.if-rest-eq1.head in
    let within : c.peaks.peak-index < length peaks = omega arith in
    elim c.if-rest-eq1.branch [
      | then-rest-eq1 w ↦
          head_over-one c.peaks.rest c.peaks.peak-index peaks c.peaks.head head within
          w.if-rest-eq1.true (w.head-is ∙ ap Some w.joined.ensures) ∙ c.peaks.invariant
      | else-rest-eq1 w ↦
          head_over-zero c.peaks.rest c.peaks.peak-index peaks c.peaks.head head within
          w.if-rest-eq1.false w.head-is ∙ c.peaks.invariant
    ]

pub returns : goal.returns
unfolding Holds
returns c = λ leaves held.
    c.unwrap_or.ensures
    ∙ head_over-end c.args.self.now.count c.peaks.rest c.peaks.peak-index c.args.self.now.peaks _
    c.peaks.head c.empty_head.result held.1 (omega arith) c.peaks.invariant
    (c.empty_head.ensures ∙ sym head_of-nil)
