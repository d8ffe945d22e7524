-- The head computed from a path, by the head of the leaf's half of the tree.
use Rattle.std.proofs.Common.{◌≡◌, ◌∙◌, ℕ, ◌-◌, ◌*◌, ◌<◌, ◌≤◌, refl, ap, arith, inl, inr}
use Rattle.std.proofs.Common.{List, [], ◌∷◌, ◌++◌, length, Bool, false, true, None, Some}
use Rattle.std.proofs.Common.{option_map}
use Rattle.std.specs.Prelude.{reverse}
use Rattle.std.proofs.lemmas.List.{reverse-append, length-reverse, nil_from_length}
use Rattle.std.proofs.lemmas.Bool.{cases_lt}
use Rattle.std.specs.Int.{IsPowerOfTwo}
use Rattle.seal_core.specs.Hashes.{node_hash}
use Rattle.seal_core.specs.Paths.{head_along, sides_within}
use Rattle.seal_core.proofs.SideSplits.{sides-single, sides-left, sides-right}

too_many : (hash : List ℕ) (siblings : List (List ℕ)) → 0 < length siblings
    → head_along [] hash siblings ≡ None
unfolding head_along
too_many hash [] some = absurd (omega arith)
too_many hash (sibling ∷ siblings) some = refl

none_left : (side : Bool) (sides : List Bool) (hash : List ℕ)
    → head_along (side ∷ sides) hash [] ≡ None
unfolding head_along
none_left true sides hash = refl
none_left false sides hash = refl

on_left : (sides : List Bool) (hash sibling : List ℕ) (siblings : List (List ℕ))
    → head_along (true ∷ sides) hash (sibling ∷ siblings)
    ≡ option_map (λ left. node_hash left sibling) (head_along sides hash siblings)
unfolding head_along
on_left sides hash sibling siblings = refl

on_right : (sides : List Bool) (hash sibling : List ℕ) (siblings : List (List ℕ))
    → head_along (false ∷ sides) hash (sibling ∷ siblings)
    ≡ option_map (λ right. node_hash sibling right) (head_along sides hash siblings)
unfolding head_along
on_right sides hash sibling siblings = refl

nothing_left : (hash : List ℕ) → head_along [] hash [] ≡ Some hash
unfolding head_along
nothing_left hash = refl

-- The only leaf.
pub root-single : (i n : ℕ) (hash : List ℕ) (path : List (List ℕ)) → n ≡ 1 → length path ≡ 0
    → head_along (sides_within n i n) hash (reverse path) ≡ Some hash
root-single i n hash path one none =
    ap (λ sides. head_along sides hash (reverse path)) (sides-single i n one)
    ∙ (ap (λ p. head_along [] hash (reverse p)) (nil_from_length path none) ∙ nothing_left hash)

pub root-too_long : (i n : ℕ) (hash : List ℕ) (path : List (List ℕ)) → n ≡ 1 → 0 < length path
    → head_along (sides_within n i n) hash (reverse path) ≡ None
root-too_long i n hash path one some =
    ap (λ sides. head_along sides hash (reverse path)) (sides-single i n one)
    ∙ too_many hash (reverse path) (omega (arith, length-reverse path))

pub root-too_short : (k i n : ℕ) (hash : List ℕ) (path : List (List ℕ)) → IsPowerOfTwo k → k < n
    → n ≤ 2 * k → length path ≡ 0
    → head_along (sides_within n i n) hash (reverse path) ≡ None
root-too_short k i n hash path power smaller largest none =
    let found : (side : Bool) (sides : List Bool) → sides_within n i n ≡ side ∷ sides
    → head_along (sides_within n i n) hash (reverse path) ≡ None =
    λ side sides is. ap (λ s. head_along s hash (reverse path)) is
    ∙ (ap (λ p. head_along (side ∷ sides) hash (reverse p)) (nil_from_length path none)
    ∙ none_left side sides hash) in
    elim (cases_lt i k) [
      | inl left ↦ found true (sides_within k i k) (sides-left k i n power smaller largest left)
      | inr right ↦
          found false (sides_within (n - k) (i - k) (n - k))
          (sides-right k i n power smaller largest right)
    ]

-- A leaf among the first k.
pub root-left : (k i n : ℕ) (hash sibling : List ℕ) (path lower : List (List ℕ))
    → IsPowerOfTwo k → k < n → n ≤ 2 * k → i < k → path ≡ lower ++ sibling ∷ []
    → head_along (sides_within n i n) hash (reverse path)
    ≡ option_map (λ left. node_hash left sibling)
    (head_along (sides_within k i k) hash (reverse lower))
root-left k i n hash sibling path lower power smaller largest left is =
    ap (λ sides. head_along sides hash (reverse path))
    (sides-left k i n power smaller largest left)
    ∙ (ap (head_along (true ∷ sides_within k i k) hash)
    (ap reverse is ∙ reverse-append lower (sibling ∷ []))
    ∙ on_left (sides_within k i k) hash sibling (reverse lower))

-- A leaf after the first k.
pub root-right : (k i n : ℕ) (hash sibling : List ℕ) (path lower : List (List ℕ))
    → IsPowerOfTwo k → k < n → n ≤ 2 * k → k ≤ i → path ≡ lower ++ sibling ∷ []
    → head_along (sides_within n i n) hash (reverse path)
    ≡ option_map (λ right. node_hash sibling right)
    (head_along (sides_within (n - k) (i - k) (n - k)) hash (reverse lower))
root-right k i n hash sibling path lower power smaller largest right is =
    ap (λ sides. head_along sides hash (reverse path))
    (sides-right k i n power smaller largest right)
    ∙ (ap (head_along (false ∷ sides_within (n - k) (i - k) (n - k)) hash)
    (ap reverse is ∙ reverse-append lower (sibling ∷ []))
    ∙ on_right (sides_within (n - k) (i - k) (n - k)) hash sibling (reverse lower))
