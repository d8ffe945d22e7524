use Rattle.std.proofs.Common.{arith}
use Rattle.std.proofs.lemmas.Grind.{common_steps}
use Rattle.work_core.proofs.serving.write_log.Goals as goal

pub loop-line-preserved : goal.loop-line-preserved
loop-line-preserved g c = grind (arith, common_steps)
