use Rattle.std.proofs.Common.{arith}
use Rattle.std.proofs.lemmas.Grind.{common_steps}
use Rattle.serve_core.proofs.sending.start_all.Goals as goal

pub loop-feeds-preserved : goal.loop-feeds-preserved
loop-feeds-preserved g c = record {
  count = grind (arith, common_steps);
  lanes = grind (arith, common_steps);
  children_room = grind (arith, common_steps);
  marks_room = grind (arith, common_steps);
  feeds = grind (arith, common_steps);
}
