use Rattle.std.proofs.Common.{vec_len}
use Rattle.serve_core.proofs.turns.give_up.Given as goal

abbrev pub decreases-loop-children : goal.decreases-loop-children
decreases-loop-children g l = vec_len l.children
