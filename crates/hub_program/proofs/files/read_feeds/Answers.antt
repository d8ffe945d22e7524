use Rattle.std.proofs.Common.{arith}
use Rattle.std.proofs.lemmas.Grind.{common_steps}
use Rattle.hub_program.proofs.files.read_feeds.Goals as goal

pub loop-file-preserved : goal.loop-file-preserved
loop-file-preserved c = grind (arith, common_steps)
