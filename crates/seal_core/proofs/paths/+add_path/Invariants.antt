use Rattle.std.proofs.Common.{length}
use Rattle.seal_core.proofs.paths.+add_path.Given as goal

abbrev pub decreases-add_path : goal.decreases-add_path
decreases-add_path l = length l.hashes.now
