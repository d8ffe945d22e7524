-- If the head of a tree is computed from a leaf, it is the tree's own, or there is a collision.
use Rattle.std.proofs.Common.{◌≡◌, ◌≢◌, ℕ, zero, suc, ◌-◌, ◌<◌, ◌≤◌, sym, subst}
use Rattle.std.proofs.Common.{List, [], ◌∷◌, ◌++◌, length, take, drop, map, Some, inl, inr}
use Rattle.std.proofs.Common.{arith}
use Rattle.std.specs.Prelude.{slice_get}
use Rattle.std.proofs.lemmas.Bool.{cases_lt}
use Rattle.std.proofs.lemmas.List.{length-take-le, length-drop, length-map}
use Rattle.std.proofs.lemmas.List.Elements.{All-append}
use Rattle.std.proofs.lemmas.Option.{slice_get_within}
use Rattle.seal_core.specs.Hashes.{leaf_hash, AreHashes, Collision}
use Rattle.seal_core.specs.Trees.{tree_head}
use Rattle.seal_core.specs.Paths.{audit_path, root_from}
use Rattle.seal_core.proofs.Complete.{audit_path-complete}
use Rattle.seal_core.proofs.Equations.{audit_path-left, audit_path-right}
use Rattle.seal_core.proofs.PathSplits.{path_of-single}
use Rattle.seal_core.proofs.SoundHeads.{length-tree_head}
use Rattle.seal_core.proofs.SoundPaths.{leaves_collide}
use Rattle.seal_core.proofs.Splits.{Split, split_of}

AreHashes-nil : AreHashes []
AreHashes-nil k d lt = absurd (omega arith)

AreHashes-push : (path : List (List ℕ)) (leaves : List (List ℕ)) → AreHashes path
    → AreHashes (path ++ tree_head leaves ∷ [])
AreHashes-push path leaves all =
    All-append (λ hash. length hash ≡ 32) path (tree_head leaves ∷ []) all (single leaves)
  where
    single : (leaves : List (List ℕ)) → AreHashes (tree_head leaves ∷ [])
    single leaves zero d lt = length-tree_head leaves
    single leaves (suc k) d lt = absurd (omega arith)

pub AreHashes-audit_path : (bound i : ℕ) (leaves : List (List ℕ)) → length leaves ≤ bound
    → i < length leaves → AreHashes (audit_path i leaves)
AreHashes-audit_path zero i leaves fits lt = absurd (omega arith)
AreHashes-audit_path (suc bound) i leaves fits lt =
    let on_left : (s : Split (length leaves)) → i < s.left → AreHashes (audit_path i leaves) =
    λ s left. subst AreHashes
    (sym (audit_path-left leaves i s.left s.power s.smaller s.largest left))
    (AreHashes-push (audit_path i (take s.left leaves)) (drop s.left leaves)
    (AreHashes-audit_path bound i (take s.left leaves)
    (omega (arith, s.smaller, length-take-le s.left leaves (omega (arith, s.smaller))))
    (omega (arith, left, length-take-le s.left leaves (omega (arith, s.smaller)))))) in
    let on_right : (s : Split (length leaves)) → s.left ≤ i → AreHashes (audit_path i leaves) =
    λ s right. subst AreHashes
    (sym (audit_path-right leaves i s.left s.power s.smaller s.largest right))
    (AreHashes-push (audit_path (i - s.left) (drop s.left leaves)) (take s.left leaves)
    (AreHashes-audit_path bound (i - s.left) (drop s.left leaves)
    (omega (arith, s.smaller, s.largest, length-drop s.left leaves))
    (omega (arith, right, s.smaller, length-drop s.left leaves)))) in
    let alone : length leaves ≤ 1 → AreHashes (audit_path i leaves) =
    λ one. subst AreHashes (sym (path_of-single i (map leaf_hash leaves)
    (omega (arith, length-map leaves leaf_hash)))) AreHashes-nil in
    elim (cases_lt 1 (length leaves)) [
      | inl more ↦
          elim (cases_lt i (split_of (length leaves) more).left) [
            | inl left ↦ on_left (split_of (length leaves) more) left
            | inr right ↦ on_right (split_of (length leaves) more) right
          ]
      | inr one ↦ alone one
    ]

pub other_leaf_collides : (leaves : List (List ℕ)) (i : ℕ) (leaf other : List ℕ)
    (path : List (List ℕ)) → slice_get leaves i ≡ Some leaf → AreHashes path
    → root_from (leaf_hash other) i (length leaves) path ≡ Some (tree_head leaves)
    → other ≢ leaf → Collision
other_leaf_collides leaves i leaf other path is of_path given differ =
    leaves_collide other leaf i (length leaves) path (audit_path i leaves) (tree_head leaves)
    of_path
    (AreHashes-audit_path (length leaves) i leaves (omega arith)
    (slice_get_within leaves i leaf is))
    given (audit_path-complete leaves i leaf is) differ
