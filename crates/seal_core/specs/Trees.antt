-- The head of a Merkle tree (RFC 6962, section 2.1).
--
-- A tree of n leaves is split after the first k, where k is the largest power of two smaller than
-- n. So it is split after the first 2 ^ d if n is at most 2 ^ (d + 1) and above 2 ^ d.
use Rattle.std.specs.Prelude.{◌≡◌, ℕ, zero, suc, ◌^◌, List, [], ◌∷◌, length, take, drop, map}
use Rattle.std.specs.Prelude.{nat_le, if◌then◌else◌}
use Rattle.sha2.specs.Sha256.{sha256}
use Rattle.seal_core.specs.Hashes.{leaf_hash, node_hash}

-- The head of the tree whose leaves have these hashes, at most 2 ^ d of them.
unfoldable pub head_within : ℕ → List (List ℕ) → List ℕ
head_within zero [] = sha256 []
head_within zero (hash ∷ hashes) = hash
head_within (suc d) hashes =
    if nat_le (length hashes) (2 ^ d) then head_within d hashes
    else node_hash (head_within d (take (2 ^ d) hashes)) (head_within d (drop (2 ^ d) hashes))

-- The same for any number of hashes: n is at most 2 ^ n.
abbrev pub head_of : List (List ℕ) → List ℕ
head_of hashes = head_within (length hashes) hashes

-- The head of the tree of these leaves: MTH in the RFC.
abbrev pub tree_head : List (List ℕ) → List ℕ
tree_head leaves = head_of (map leaf_hash leaves)

-- The tree of these leaves has this size and this head.
abbrev pub HasHead : List (List ℕ) → ℕ → List ℕ → Type 0
HasHead leaves size head = (length leaves ≡ size) × (tree_head leaves ≡ head)
