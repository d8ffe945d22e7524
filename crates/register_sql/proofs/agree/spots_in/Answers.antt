use Rattle.std.proofs.Common.{arith}
use Rattle.std.proofs.lemmas.Grind.{common_steps}
use Rattle.register_sql.proofs.agree.spots_in.Goals as goal

pub rows-preserved : goal.rows-preserved
rows-preserved c = grind (arith, common_steps)
