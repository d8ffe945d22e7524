-- The hashes of RFC 6962, section 2.1, as functions on lists of bytes.
use Rattle.std.specs.Prelude.{◌≡◌, ◌≢◌, ℕ, List, ◌∷◌, ◌++◌, All, length}
use Rattle.sha2.specs.Sha256.{sha256}

-- The hash of a leaf: SHA-256 of a byte 0 and the leaf.
abbrev pub leaf_hash : List ℕ → List ℕ
leaf_hash leaf = sha256 (0 ∷ leaf)

-- The hash of a node: SHA-256 of a byte 1 and the hashes of its two children.
abbrev pub node_hash : List ℕ → List ℕ → List ℕ
node_hash left right = sha256 (1 ∷ (left ++ right))

-- Each has the 32 bytes of a SHA-256.
abbrev pub AreHashes : List (List ℕ) → Type 0
AreHashes hashes = All (λ hash. length hash ≡ 32) hashes

-- Two different texts with the same SHA-256.
pub record Collision : Type 0 where
  pub first : List ℕ
  pub second : List ℕ
  pub differ : first ≢ second
  pub same : sha256 first ≡ sha256 second
