use Rattle.seal_core.proofs.paths.+root_from_hash.Given as goal

abbrev pub decreases-root_from_hash : goal.decreases-root_from_hash
decreases-root_from_hash l = l.size
