use Rattle.std.proofs.Common.{◌≡◌, map}
use Rattle.seal_core.specs.Hashes.{leaf_hash}
use Rattle.seal_core.specs.Leaves.{leaves}
use Rattle.seal_core.proofs.receipts.leaf_hashes.Given as goal

-- the hashes of the leaves of the entries so far
abbrev pub invariant-loop-i : goal.invariant-loop-i
invariant-loop-i l = l.hashes.items ≡ map leaf_hash (leaves l.ledger l.i)
