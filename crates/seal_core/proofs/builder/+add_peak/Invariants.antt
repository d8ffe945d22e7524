use Rattle.std.proofs.Common.{length}
use Rattle.seal_core.proofs.builder.+add_peak.Given as goal

abbrev pub decreases-add_peak : goal.decreases-add_peak
decreases-add_peak l = length l.peaks.now
