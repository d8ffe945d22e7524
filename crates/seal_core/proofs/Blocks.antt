-- The head of a tree from the heads of its blocks of 1,024 leaves.
use Rattle.std.proofs.Common.{◌≡◌, ◌∙◌, ℕ, zero, suc, ◌+◌, ◌-◌, ◌*◌, ◌^◌, ◌<◌, ◌≤◌, ap, sym, subst}
use Rattle.std.proofs.Common.{List, ◌∷◌, ◌++◌, length, map, arith, refl, inl, inr}
use Rattle.std.specs.Prelude.{min}
use Rattle.std.specs.List.{range_with_len}
use Rattle.std.proofs.lemmas.Bool.{cases_lt}
use Rattle.std.proofs.lemmas.List.{map-append, length-map}
use Rattle.std.proofs.lemmas.List.FromFn.{length-map-range_with_len}
use Rattle.std.proofs.lemmas.Nat.{pow-add, pow_pos}
use Rattle.std.proofs.Math.Nat.{pow-suc}
use Rattle.rayon.specs.Shown.{run-append}
use Rattle.seal_core.specs.Hashes.{leaf_hash, node_hash}
use Rattle.seal_core.specs.Trees.{head_of, tree_head}
use Rattle.seal_core.specs.Blocks.{block_head}
use Rattle.std.specs.Int.{div_ceil}
use Rattle.std.proofs.lemmas.Grind.{div_ceil_times}
use Rattle.seal_core.proofs.Depths.{fits_own_number}
use Rattle.seal_core.proofs.Heads.{head_of-one, head_of-split}

-- Two functions that give the same, each from its own number on.
same_ranges : {X : Type 0} (f g : ℕ → X) (a b n : ℕ)
    → ((i : ℕ) → i < n → f (a + i) ≡ g (b + i))
    → map f (range_with_len a n) ≡ map g (range_with_len b n)
same_ranges f g a b zero same = refl
same_ranges f g a b (suc n) same =
    let here : f a ≡ g b =
    ap f (let e : a ≡ a + 0 = omega arith in e)
    ∙ (same 0 (omega arith) ∙ ap g (let e : b + 0 ≡ b = omega arith in e)) in
    let on : (i : ℕ) → i < n → f (a + 1 + i) ≡ g (b + 1 + i) =
    λ i lt. ap f (let e : a + 1 + i ≡ a + suc i = omega arith in e)
    ∙ (same (suc i) (omega arith)
    ∙ ap g (let e : b + suc i ≡ b + 1 + i = omega arith in e)) in
    ap (λ x. x ∷ map f (range_with_len (a + 1) n)) here
    ∙ ap (λ l. g b ∷ l) (same_ranges f g (a + 1) (b + 1) n on)

-- A range in two parts.
parted : {X : Type 0} (f : ℕ → X) (a n k : ℕ) → k ≤ n
    → map f (range_with_len a n)
    ≡ map f (range_with_len a k) ++ map f (range_with_len (a + k) (n - k))
parted f a n k le =
    ap (λ x. map f (range_with_len a x)) (let e : n ≡ k + (n - k) = omega arith in e)
    ∙ (ap (map f) (sym (run-append a k (n - k)))
    ∙ map-append f (range_with_len a k) (range_with_len (a + k) (n - k)))

-- The head of a tree of two parts. The first part is full.
tree_head-parts : (d : ℕ) (leaf : ℕ → List ℕ) (a n k : ℕ) → k ≡ 2 ^ d → k < n → n ≤ 2 * k
    → tree_head (map leaf (range_with_len a n))
    ≡ node_hash (tree_head (map leaf (range_with_len a k)))
    (tree_head (map leaf (range_with_len (a + k) (n - k))))
tree_head-parts d leaf a n k power some fits =
    let older = map leaf (range_with_len a k) in
    let newer = map leaf (range_with_len (a + k) (n - k)) in
    let older_length : length (map leaf_hash older) ≡ k =
    length-map older leaf_hash ∙ length-map-range_with_len leaf a k in
    let newer_length : length (map leaf_hash newer) ≡ n - k =
    length-map newer leaf_hash ∙ length-map-range_with_len leaf (a + k) (n - k) in
    ap tree_head (parted leaf a n k (omega arith))
    ∙ (ap head_of (map-append leaf_hash older newer)
    ∙ head_of-split d (map leaf_hash older) (map leaf_hash newer) (older_length ∙ power)
    (omega (arith, newer_length)) (omega (arith, newer_length, power)))

-- The same of heads of full trees, in place of leaves.
head_of-parts : (d : ℕ) (head : ℕ → List ℕ) (m k : ℕ) → k ≡ 2 ^ d → k < m → m ≤ 2 * k
    → head_of (map head (range_with_len 0 m))
    ≡ node_hash (head_of (map head (range_with_len 0 k)))
    (head_of (map head (range_with_len (0 + k) (m - k))))
head_of-parts d head m k power some fits =
    let older_length : length (map head (range_with_len 0 k)) ≡ k =
    length-map-range_with_len head 0 k in
    let newer_length : length (map head (range_with_len (0 + k) (m - k))) ≡ m - k =
    length-map-range_with_len head (0 + k) (m - k) in
    ap head_of (parted head 0 m k (omega arith))
    ∙ head_of-split d (map head (range_with_len 0 k)) (map head (range_with_len (0 + k) (m - k)))
    (older_length ∙ power) (omega (arith, newer_length)) (omega (arith, newer_length, power))

one_block : (leaf : ℕ → List ℕ) (first n m : ℕ) → m ≡ 1 → n ≤ 1024
    → tree_head (map leaf (range_with_len first n))
    ≡ head_of (map (block_head leaf first n) (range_with_len 0 m))
one_block leaf first n m one fits =
    let whole : min 1024 (n - 0 * 1024) ≡ n = omega arith in
    let start : first + 0 * 1024 ≡ first = omega arith in
    ap (λ x. tree_head (map leaf (range_with_len x n))) (sym start)
    ∙ (ap (λ x. tree_head (map leaf (range_with_len (first + 0 * 1024) x))) (sym whole)
    ∙ (sym (head_of-one (block_head leaf first n 0))
    ∙ ap (λ x. head_of (map (block_head leaf first n) (range_with_len 0 x))) (sym one)))

-- More blocks than 2 ^ h: those before and those after.
two_halves : (h : ℕ) (leaf : ℕ → List ℕ) (first n m : ℕ) → m ≤ 2 ^ suc h → 2 ^ h < m
    → n ≤ m * 1024 → m * 1024 < n + 1024
    → tree_head (map leaf (range_with_len first (2 ^ h * 1024)))
    ≡ head_of (map (block_head leaf first (2 ^ h * 1024)) (range_with_len 0 (2 ^ h)))
    → tree_head (map leaf (range_with_len (first + 2 ^ h * 1024) (n - 2 ^ h * 1024)))
    ≡ head_of (map (block_head leaf (first + 2 ^ h * 1024) (n - 2 ^ h * 1024))
    (range_with_len 0 (m - 2 ^ h)))
    → tree_head (map leaf (range_with_len first n))
    ≡ head_of (map (block_head leaf first n) (range_with_len 0 m))
two_halves h leaf first n m fits more most least left right =
    let half = 2 ^ h in
    let k = half * 1024 in
    let double : 2 ^ suc h ≡ half * 2 = pow-suc 2 h in
    let older = same_ranges (block_head leaf first k) (block_head leaf first n) 0 0 half
    (λ i lt. let full : min 1024 (k - (0 + i) * 1024) ≡ min 1024 (n - (0 + i) * 1024) =
    omega arith in
    ap (λ x. tree_head (map leaf (range_with_len (first + (0 + i) * 1024) x))) full) in
    let newer = same_ranges (block_head leaf (first + k) (n - k)) (block_head leaf first n)
    0 (0 + half) (m - half)
    (λ i lt. let start : first + k + (0 + i) * 1024 ≡ first + (0 + half + i) * 1024 =
    omega arith in
    let size : n - k - (0 + i) * 1024 ≡ n - (0 + half + i) * 1024 = omega arith in
    ap (λ x. tree_head (map leaf (range_with_len x (min 1024 (n - k - (0 + i) * 1024))))) start
    ∙ ap (λ x. tree_head (map leaf (range_with_len (first + (0 + half + i) * 1024)
    (min 1024 x)))) size) in
    tree_head-parts (h + 10) leaf first n k (sym (pow-add 2 h 10)) (omega arith)
    (omega (arith, double))
    ∙ (ap (λ x. node_hash x (tree_head (map leaf (range_with_len (first + k) (n - k)))))
    (left ∙ ap head_of older)
    ∙ (ap (λ x. node_hash (head_of (map (block_head leaf first n) (range_with_len 0 half))) x)
    (right ∙ ap head_of newer)
    ∙ sym (head_of-parts h (block_head leaf first n) m half refl more (omega (arith, double)))))

-- The head of the tree of n leaves, in m blocks, is that of the tree over the blocks' heads.
pub tree_head-blocks : (h : ℕ) (leaf : ℕ → List ℕ) (first n m : ℕ) → m ≤ 2 ^ h → 0 < m
    → n ≤ m * 1024 → m * 1024 < n + 1024
    → tree_head (map leaf (range_with_len first n))
    ≡ head_of (map (block_head leaf first n) (range_with_len 0 m))
tree_head-blocks zero leaf first n m fits some most least =
    let one : m ≡ 1 = omega arith in one_block leaf first n m one (omega (arith, one))
tree_head-blocks (suc h) leaf first n m fits some most least =
    let half = 2 ^ h in
    let k = half * 1024 in
    elim (cases_lt half m) [
      | inl more ↦ two_halves h leaf first n m fits more most least
          (tree_head-blocks h leaf first k half (omega arith) (pow_pos h) (omega arith)
          (omega (arith, pow_pos h)))
          (tree_head-blocks h leaf (first + k) (n - k) (m - half)
          (omega (arith, pow-suc 2 h)) (omega arith) (omega arith) (omega arith))
      | inr le ↦ tree_head-blocks h leaf first n m le some most least
    ]

-- All leaves, none of them in no block.
pub tree_head-all : (leaf : ℕ → List ℕ) (n : ℕ) → tree_head (map leaf (range_with_len 0 n))
    ≡ head_of (map (block_head leaf 0 n) (range_with_len 0 (div_ceil n 1024)))
tree_head-all leaf n =
    let bounds = div_ceil_times n 1024 (omega arith) in
    elim (cases_lt 0 n) [
      | inl some ↦ tree_head-blocks (div_ceil n 1024) leaf 0 n (div_ceil n 1024)
          (fits_own_number (div_ceil n 1024)) (omega (arith, bounds.0)) bounds.0 bounds.1
      | inr le ↦
          let none : n ≡ 0 = omega arith in
          subst (λ m. tree_head (map leaf (range_with_len 0 m))
          ≡ head_of (map (block_head leaf 0 m) (range_with_len 0 (div_ceil m 1024))))
          (sym none) refl
    ]
