-- Two lists of leaves with one head are the same list, or there is a collision.
use Rattle.std.proofs.Common.{◌≡◌, ◌≢◌, ◌∙◌, ℕ, zero, suc, ◌<◌, ◌≤◌, refl, ap, sym}
use Rattle.std.proofs.Common.{◌⊎◌, inl, inr, arith}
use Rattle.std.proofs.Common.{List, [], ◌∷◌, ◌++◌, length, take, drop}
use Rattle.std.proofs.lemmas.List.{take-append-drop}
use Rattle.std.proofs.lemmas.List.{length-take-le, length-drop, nil_from_length}
use Rattle.sha2.specs.Sha256.{sha256}
use Rattle.sha2.proofs.Facts256.{length-sha256}
use Rattle.seal_core.specs.Hashes.{leaf_hash, node_hash, Collision}
use Rattle.seal_core.specs.Trees.{tree_head}
use Rattle.seal_core.proofs.Collisions.{collision, same_text, same_children}
use Rattle.seal_core.proofs.Equations.{tree_head-halves}
use Rattle.seal_core.proofs.Heads.{head_of-nil, head_of-one}
use Rattle.seal_core.proofs.Splits.{Split, split_of}

-- A list of leaves by its length, with the text whose hash is the head.
data Known (leaves : List (List ℕ)) : Type 0 where
  none : leaves ≡ [] → tree_head leaves ≡ sha256 [] → Known leaves
  one : (leaf : List ℕ) → leaves ≡ leaf ∷ [] → tree_head leaves ≡ sha256 (0 ∷ leaf)
      → Known leaves
  more : (k : ℕ) → 0 < k → k < length leaves → tree_head leaves
      ≡ node_hash (tree_head (take k leaves)) (tree_head (drop k leaves)) → Known leaves

known : (leaves : List (List ℕ)) → Known leaves
known [] = none refl head_of-nil
known (leaf ∷ []) = one leaf refl (head_of-one (leaf_hash leaf))
known (leaf ∷ next ∷ rest) =
    let s : Split (length (leaf ∷ next ∷ rest)) =
    split_of (length (leaf ∷ next ∷ rest)) (omega arith) in
    more s.left (omega (arith, s.smaller, s.largest)) s.smaller
    (tree_head-halves (leaf ∷ next ∷ rest) s.left s.power s.smaller s.largest)

-- The head of a tree is a hash.
pub length-tree_head : (leaves : List (List ℕ)) → length (tree_head leaves) ≡ 32
length-tree_head leaves =
    elim (known leaves) [
      | none is head ↦ ap length head ∙ length-sha256 _
      | one leaf is head ↦ ap length head ∙ length-sha256 _
      | more k some few head ↦ ap length head ∙ length-sha256 _
    ]

joined : (k m : ℕ) (L M : List (List ℕ)) → take k L ≡ take m M → drop k L ≡ drop m M → L ≡ M
joined k m L M front back =
    sym (take-append-drop k L)
    ∙ (ap (λ l. l ++ drop k L) front ∙ (ap (λ l. take m M ++ l) back ∙ take-append-drop m M))

-- A tree without leaves, and one with the same head.
with_none : (L M : List (List ℕ)) → L ≡ [] → tree_head L ≡ sha256 [] → tree_head L ≡ tree_head M
    → (L ≡ M) ⊎ Collision
with_none L M is_L head_L same =
    elim (known M) [
      | none is head ↦ inl (is_L ∙ sym is)
      | one leaf is head ↦
          inr (collision [] (0 ∷ leaf) (λ e. cc) (sym head_L ∙ (same ∙ head)))
      | more k some few head ↦
          inr (collision [] (1 ∷ (tree_head (take k M) ++ tree_head (drop k M))) (λ e. cc)
          (sym head_L ∙ (same ∙ head)))
    ]

with_one : (L M : List (List ℕ)) (leaf : List ℕ) → L ≡ leaf ∷ []
    → tree_head L ≡ sha256 (0 ∷ leaf) → tree_head L ≡ tree_head M → (L ≡ M) ⊎ Collision
with_one L M leaf is_L head_L same =
    elim (known M) [
      | none is head ↦ inr (collision (0 ∷ leaf) [] (λ e. cc) (sym head_L ∙ (same ∙ head)))
      | one other is head ↦
          elim (same_text (0 ∷ leaf) (0 ∷ other) (sym head_L ∙ (same ∙ head))) [
            | inl equal ↦ inl cc
            | inr found ↦ inr found
          ]
      | more k some few head ↦
          inr (collision (0 ∷ leaf) (1 ∷ (tree_head (take k M) ++ tree_head (drop k M)))
          (λ e. cc) (sym head_L ∙ (same ∙ head)))
    ]

swapped : (L M : List (List ℕ)) → (M ≡ L) ⊎ Collision → (L ≡ M) ⊎ Collision
swapped L M (inl same) = inl (sym same)
swapped L M (inr found) = inr found

-- Two trees, each with two halves.
with_halves : (k m : ℕ) (L M : List (List ℕ))
    → node_hash (tree_head (take k L)) (tree_head (drop k L))
    ≡ node_hash (tree_head (take m M)) (tree_head (drop m M))
    → (tree_head (take k L) ≡ tree_head (take m M) → (take k L ≡ take m M) ⊎ Collision)
    → (tree_head (drop k L) ≡ tree_head (drop m M) → (drop k L ≡ drop m M) ⊎ Collision)
    → (L ≡ M) ⊎ Collision
with_halves k m L M same on_left on_right =
    elim (same_children (tree_head (take k L)) (tree_head (drop k L)) (tree_head (take m M))
    (tree_head (drop m M)) (length-tree_head (take k L) ∙ sym (length-tree_head (take m M))) same) [
      | inl (left, right) ↦
          elim (on_left left) [
            | inl front ↦
                elim (on_right right) [
                  | inl back ↦ inl (joined k m L M front back)
                  | inr found ↦ inr found
                ]
            | inr found ↦ inr found
          ]
      | inr found ↦ inr found
    ]

-- Two lists of leaves that have one head.
pub same_leaves : (bound : ℕ) (L M : List (List ℕ)) → length L ≤ bound
    → tree_head L ≡ tree_head M → (L ≡ M) ⊎ Collision
same_leaves zero L M fits same =
    let no_leaf : L ≡ [] = nil_from_length L (omega arith) in
    with_none L M no_leaf (ap tree_head no_leaf ∙ head_of-nil) same
same_leaves (suc bound) L M fits same =
    elim (known L) [
      | none is head ↦ with_none L M is head same
      | one leaf is head ↦ with_one L M leaf is head same
      | more k some few head ↦
          elim (known M) [
            | none is_M head_M ↦ swapped L M (with_none M L is_M head_M (sym same))
            | one leaf is_M head_M ↦ swapped L M (with_one M L leaf is_M head_M (sym same))
            | more m some_M few_M head_M ↦
                with_halves k m L M (sym head ∙ (same ∙ head_M))
                (same_leaves bound (take k L) (take m M)
                (omega (arith, length-take-le k L (omega arith))))
                (same_leaves bound (drop k L) (drop m M) (omega (arith, length-drop k L)))
          ]
    ]

-- Two different lists of leaves that have one head.
pub heads_collide : (L M : List (List ℕ)) → tree_head L ≡ tree_head M → L ≢ M → Collision
heads_collide L M same differ =
    elim (same_leaves (length L) L M (omega arith) same) [
      | inl equal ↦ absurd (differ equal)
      | inr found ↦ found
    ]
