-- Audit paths (RFC 6962, section 2.1.1), and the head that is computed from one.
use Rattle.std.specs.Prelude.{ℕ, zero, suc, ◌^◌, ◌-◌, List, [], ◌∷◌, ◌++◌, length, take, drop, map}
use Rattle.std.specs.Prelude.{reverse, nat_le, nat_lt, if◌then◌else◌, Bool, true, false}
use Rattle.std.specs.Prelude.{Option, Some, None, option_map}
use Rattle.seal_core.specs.Hashes.{leaf_hash, node_hash}
use Rattle.seal_core.specs.Trees.{head_within}

-- The audit path of leaf i, from 0, of a tree of at most 2 ^ d leaves with these hashes: the path
-- within the half that has the leaf, and then the head of the other half.
unfoldable pub path_within : ℕ → ℕ → List (List ℕ) → List (List ℕ)
path_within zero i hashes = []
path_within (suc d) i hashes =
    if nat_le (length hashes) (2 ^ d) then path_within d i hashes
    else if nat_lt i (2 ^ d)
    then path_within d i (take (2 ^ d) hashes) ++ head_within d (drop (2 ^ d) hashes) ∷ []
    else path_within d (i - 2 ^ d) (drop (2 ^ d) hashes)
    ++ head_within d (take (2 ^ d) hashes) ∷ []

-- The same for any number of hashes.
abbrev pub path_of : ℕ → List (List ℕ) → List (List ℕ)
path_of i hashes = path_within (length hashes) i hashes

-- The audit path of leaf i of the tree of these leaves: PATH in the RFC.
abbrev pub audit_path : ℕ → List (List ℕ) → List (List ℕ)
audit_path i leaves = path_of i (map leaf_hash leaves)

-- The way from the root down to leaf i of n, at most 2 ^ d: true is to the left.
unfoldable pub sides_within : ℕ → ℕ → ℕ → List Bool
sides_within zero i n = []
sides_within (suc d) i n =
    if nat_le n (2 ^ d) then sides_within d i n
    else if nat_lt i (2 ^ d) then true ∷ sides_within d i (2 ^ d)
    else false ∷ sides_within d (i - 2 ^ d) (n - 2 ^ d)

-- The head computed from the hash of a leaf, the way down to it, and the sibling at each step of
-- that way. None if there are not as many siblings as steps.
unfoldable pub head_along : List Bool → List ℕ → List (List ℕ) → Option (List ℕ)
head_along [] hash [] = Some hash
head_along [] hash (sibling ∷ siblings) = None
head_along (side ∷ sides) hash [] = None
head_along (true ∷ sides) hash (sibling ∷ siblings) =
    option_map (λ left. node_hash left sibling) (head_along sides hash siblings)
head_along (false ∷ sides) hash (sibling ∷ siblings) =
    option_map (λ right. node_hash sibling right) (head_along sides hash siblings)

-- The head computed from the hash of leaf i of n and an audit path, whose last item is the sibling
-- next to the root. None if i is not below n, or if the path's length is wrong.
abbrev pub root_from : List ℕ → ℕ → ℕ → List (List ℕ) → Option (List ℕ)
root_from hash i n path =
    if nat_lt i n then head_along (sides_within n i n) hash (reverse path) else None
