use Rattle.std.proofs.Common.{refl}
use Rattle.seal_core.specs.HeadBuilder.{Holds}
use Rattle.seal_core.proofs.PeakLemmas.{ArePeaks-none}
use Rattle.seal_core.proofs.builder.HeadBuilder.new.Goals as goal

pub returns-clause-none : goal.returns-clause-none
unfolding Holds
returns-clause-none c = (refl, ArePeaks-none 0 _)
