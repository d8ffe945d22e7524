use Rattle.std.proofs.Common.{◌≡◌, ◌++◌, length, reverse}
use Rattle.posting_core.proofs.spots.Spots.to_vec.Given as goal

abbrev pub invariant-loop-spot : goal.invariant-loop-spot
invariant-loop-spot l = l.fn.self ≡ l.left ++ reverse l.spots.items

abbrev pub decreases-loop-spot : goal.decreases-loop-spot
decreases-loop-spot l = length l.left
