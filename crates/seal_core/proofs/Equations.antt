-- The RFC's equations: the head of a tree, and a path in it, from its two halves.
use Rattle.std.proofs.Common.{◌≡◌, ◌∙◌, ℕ, ◌-◌, ◌*◌, ◌<◌, ◌≤◌, ap, arith}
use Rattle.std.proofs.Common.{List, [], ◌∷◌, ◌++◌, length, take, drop, map}
use Rattle.std.proofs.lemmas.List.{length-map, take-map, drop-map}
use Rattle.std.specs.Int.{IsPowerOfTwo}
use Rattle.seal_core.specs.Hashes.{leaf_hash, node_hash}
use Rattle.seal_core.specs.Trees.{head_of, tree_head}
use Rattle.seal_core.specs.Paths.{path_of, audit_path}
use Rattle.seal_core.proofs.Heads.{head_of-halves}
use Rattle.seal_core.proofs.PathSplits.{path_of-left, path_of-right}

pub tree_head-halves : (leaves : List (List ℕ)) (k : ℕ) → IsPowerOfTwo k → k < length leaves
    → length leaves ≤ 2 * k
    → tree_head leaves ≡ node_hash (tree_head (take k leaves)) (tree_head (drop k leaves))
tree_head-halves leaves k power smaller largest =
    head_of-halves (map leaf_hash leaves) k power (omega (arith, length-map leaves leaf_hash))
    (omega (arith, length-map leaves leaf_hash))
    ∙ (ap (λ l. node_hash (head_of l) (head_of (drop k (map leaf_hash leaves))))
    (take-map leaf_hash k leaves)
    ∙ ap (λ r. node_hash (tree_head (take k leaves)) (head_of r)) (drop-map leaf_hash k leaves))

pub audit_path-left : (leaves : List (List ℕ)) (i k : ℕ) → IsPowerOfTwo k → k < length leaves
    → length leaves ≤ 2 * k → i < k
    → audit_path i leaves ≡ audit_path i (take k leaves) ++ tree_head (drop k leaves) ∷ []
audit_path-left leaves i k power smaller largest left =
    path_of-left k i (map leaf_hash leaves) power
    (omega (arith, length-map leaves leaf_hash)) (omega (arith, length-map leaves leaf_hash)) left
    ∙ (ap (λ l. path_of i l ++ head_of (drop k (map leaf_hash leaves)) ∷ [])
    (take-map leaf_hash k leaves)
    ∙ ap (λ r. audit_path i (take k leaves) ++ head_of r ∷ []) (drop-map leaf_hash k leaves))

pub audit_path-right : (leaves : List (List ℕ)) (i k : ℕ) → IsPowerOfTwo k → k < length leaves
    → length leaves ≤ 2 * k → k ≤ i
    → audit_path i leaves ≡ audit_path (i - k) (drop k leaves) ++ tree_head (take k leaves) ∷ []
audit_path-right leaves i k power smaller largest right =
    path_of-right k i (map leaf_hash leaves) power
    (omega (arith, length-map leaves leaf_hash)) (omega (arith, length-map leaves leaf_hash)) right
    ∙ (ap (λ r. path_of (i - k) r ++ head_of (take k (map leaf_hash leaves)) ∷ [])
    (drop-map leaf_hash k leaves)
    ∙ ap (λ l. audit_path (i - k) (drop k leaves) ++ head_of l ∷ []) (take-map leaf_hash k leaves))
