-- The definitions computed on trees of up to 7 leaves, like the figures of the RFC. No SHA-256 is
-- computed.
use Rattle.std.proofs.Common.{◌≡◌, ℕ, List, [], ◌∷◌, None, Some, refl}
use Rattle.sha2.specs.Sha256.{sha256}
use Rattle.seal_core.specs.Hashes.{leaf_hash, node_hash}
use Rattle.seal_core.specs.Trees.{head_within, head_of, tree_head}
use Rattle.seal_core.specs.Paths.{path_within, path_of, sides_within, head_along}
use Rattle.seal_core.specs.Paths.{root_from}

none : tree_head [] ≡ sha256 []
unfolding head_within
none = refl

one : (a : List ℕ) → tree_head (a ∷ []) ≡ leaf_hash a
unfolding head_within
one a = refl

two : (a b : List ℕ) → tree_head (a ∷ b ∷ []) ≡ node_hash (leaf_hash a) (leaf_hash b)
unfolding head_within
two a b = refl

three : (a b c : List ℕ)
    → head_of (a ∷ b ∷ c ∷ []) ≡ node_hash (node_hash a b) c
unfolding head_within
three a b c = refl

four : (a b c d : List ℕ)
    → head_of (a ∷ b ∷ c ∷ d ∷ []) ≡ node_hash (node_hash a b) (node_hash c d)
unfolding head_within
four a b c d = refl

five : (a b c d e : List ℕ) → head_of (a ∷ b ∷ c ∷ d ∷ e ∷ [])
    ≡ node_hash (node_hash (node_hash a b) (node_hash c d)) e
unfolding head_within
five a b c d e = refl

six : (a b c d e f : List ℕ) → head_of (a ∷ b ∷ c ∷ d ∷ e ∷ f ∷ [])
    ≡ node_hash (node_hash (node_hash a b) (node_hash c d)) (node_hash e f)
unfolding head_within
six a b c d e f = refl

seven : (a b c d e f g : List ℕ) → head_of (a ∷ b ∷ c ∷ d ∷ e ∷ f ∷ g ∷ [])
    ≡ node_hash (node_hash (node_hash a b) (node_hash c d)) (node_hash (node_hash e f) g)
unfolding head_within
seven a b c d e f g = refl

-- Paths in the tree of 7 leaves (RFC 6962, section 2.1.3): of the first, the fourth and the last.
path-first : (a b c d e f g : List ℕ) → path_of 0 (a ∷ b ∷ c ∷ d ∷ e ∷ f ∷ g ∷ [])
    ≡ b ∷ node_hash c d ∷ node_hash (node_hash e f) g ∷ []
unfolding head_within path_within
path-first a b c d e f g = refl

path-fourth : (a b c d e f g : List ℕ) → path_of 3 (a ∷ b ∷ c ∷ d ∷ e ∷ f ∷ g ∷ [])
    ≡ c ∷ node_hash a b ∷ node_hash (node_hash e f) g ∷ []
unfolding head_within path_within
path-fourth a b c d e f g = refl

path-last : (a b c d e f g : List ℕ) → path_of 6 (a ∷ b ∷ c ∷ d ∷ e ∷ f ∷ g ∷ [])
    ≡ node_hash e f ∷ node_hash (node_hash a b) (node_hash c d) ∷ []
unfolding head_within path_within
path-last a b c d e f g = refl

-- The head computed from the fourth and from the last leaf of 7.
root-fourth : (h p q r : List ℕ) → root_from h 3 7 (p ∷ q ∷ r ∷ [])
    ≡ Some (node_hash (node_hash q (node_hash p h)) r)
unfolding sides_within head_along
root-fourth h p q r = refl

root-last : (h p q : List ℕ) → root_from h 6 7 (p ∷ q ∷ []) ≡ Some (node_hash q (node_hash p h))
unfolding sides_within head_along
root-last h p q = refl

-- A path that is too long, one that is too short, and a leaf that is not in the tree.
too-long : (h p q r : List ℕ) → root_from h 6 7 (p ∷ q ∷ r ∷ []) ≡ None
unfolding sides_within head_along
too-long h p q r = refl

too-short : (h p q : List ℕ) → root_from h 3 7 (p ∷ q ∷ []) ≡ None
unfolding sides_within head_along
too-short h p q = refl

outside : (h p q r : List ℕ) → root_from h 7 7 (p ∷ q ∷ r ∷ []) ≡ None
outside h p q r = refl
