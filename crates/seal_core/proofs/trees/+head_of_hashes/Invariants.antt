use Rattle.std.proofs.Common.{length}
use Rattle.seal_core.proofs.trees.+head_of_hashes.Given as goal

abbrev pub decreases-head_of_hashes : goal.decreases-head_of_hashes
decreases-head_of_hashes l = length l.hashes.now
