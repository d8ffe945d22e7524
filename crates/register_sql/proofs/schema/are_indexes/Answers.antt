use Rattle.std.proofs.Common.{arith}
use Rattle.std.proofs.lemmas.Grind.{common_steps}
use Rattle.register_sql.proofs.schema.are_indexes.Goals as goal

pub all-preserved : goal.all-preserved
all-preserved c = grind (arith, common_steps)
