use Rattle.std.proofs.Common.{arith}
use Rattle.std.proofs.lemmas.Grind.{common_steps}
use Rattle.register_store.proofs.member.write_codes.Goals as goal

pub loop-thing-preserved : goal.loop-thing-preserved
loop-thing-preserved c = grind (arith, common_steps)
