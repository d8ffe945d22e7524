use Rattle.std.proofs.Common.{arith}
use Rattle.std.proofs.lemmas.Grind.{common_steps}
use Rattle.desk_core.proofs.texts.add.Goals as goal

pub loop-piece-preserved : goal.loop-piece-preserved
loop-piece-preserved c = grind (arith, common_steps)
