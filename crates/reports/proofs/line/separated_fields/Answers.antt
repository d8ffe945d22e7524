use Rattle.std.proofs.Common.{arith}
use Rattle.std.proofs.lemmas.Grind.{common_steps}
use Rattle.reports.proofs.line.separated_fields.Goals as goal

pub loop-text-preserved : goal.loop-text-preserved
loop-text-preserved c = grind (arith, common_steps)
