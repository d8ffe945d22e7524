use Rattle.std.proofs.Common.{◌≡◌, drop, None}
use Rattle.seal_core.proofs.PeakLemmas.{head_over}
use Rattle.seal_core.proofs.builder.HeadBuilder.head.Given as goal

abbrev pub invariant-peaks : goal.invariant-peaks
invariant-peaks l =
    head_over l.rest (drop l.peak-index l.self.peaks) l.head
    ≡ head_over l.self.count l.self.peaks None
