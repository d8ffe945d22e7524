-- The sides on which a leaf lies, from those within its half of the tree.
use Rattle.std.proofs.Common.{◌≡◌, ◌∙◌, ℕ, suc, ◌-◌, ◌*◌, ◌^◌, ◌<◌, ◌≤◌, refl, ap, sym}
use Rattle.std.proofs.Common.{[], ◌∷◌, arith, false, true, subst}
use Rattle.std.proofs.lemmas.Bool.{le-leb, lt-leb, lt-ltb, le-ltb}
use Rattle.std.proofs.Math.Nat.{pow-suc}
use Rattle.std.specs.Int.{IsPowerOfTwo}
use Rattle.seal_core.specs.Paths.{sides_within}
use Rattle.seal_core.proofs.Depths.{fits_own_number, same_depth}

sides_within-deeper : (i n d : ℕ) → n ≤ 2 ^ d → sides_within (suc d) i n ≡ sides_within d i n
unfolding sides_within
sides_within-deeper i n d fits = rw (le-leb n (2 ^ d) fits) refl

-- Any depth that is large enough.
sides-within : (i n d : ℕ) → n ≤ 2 ^ d → sides_within n i n ≡ sides_within d i n
sides-within i n d fits =
    same_depth (λ e. sides_within e i n) n (sides_within-deeper i n) n d (fits_own_number n) fits

-- The only leaf has no sides.
pub sides-single : (i n : ℕ) → n ≡ 1 → sides_within n i n ≡ []
unfolding sides_within
sides-single i n one = rw one refl

sides_within-left : (d i n : ℕ) → 2 ^ d < n → i < 2 ^ d
    → sides_within (suc d) i n ≡ true ∷ sides_within d i (2 ^ d)
unfolding sides_within
sides_within-left d i n more left = rw (lt-leb n (2 ^ d) more, lt-ltb i (2 ^ d) left) refl

sides_within-right : (d i n : ℕ) → 2 ^ d < n → 2 ^ d ≤ i
    → sides_within (suc d) i n ≡ false ∷ sides_within d (i - 2 ^ d) (n - 2 ^ d)
unfolding sides_within
sides_within-right d i n more right = rw (lt-leb n (2 ^ d) more, le-ltb i (2 ^ d) right) refl

left_at : (d i n : ℕ) → 2 ^ d < n → n ≤ 2 * 2 ^ d → i < 2 ^ d
    → sides_within n i n ≡ true ∷ sides_within (2 ^ d) i (2 ^ d)
left_at d i n smaller largest left =
    sides-within i n (suc d) (omega (arith, pow-suc 2 d))
    ∙ (sides_within-left d i n smaller left
    ∙ ap (λ s. true ∷ s) (sym (sides-within i (2 ^ d) d (omega arith))))

right_at : (d i n : ℕ) → 2 ^ d < n → n ≤ 2 * 2 ^ d → 2 ^ d ≤ i
    → sides_within n i n ≡ false ∷ sides_within (n - 2 ^ d) (i - 2 ^ d) (n - 2 ^ d)
right_at d i n smaller largest right =
    sides-within i n (suc d) (omega (arith, pow-suc 2 d))
    ∙ (sides_within-right d i n smaller right
    ∙ ap (λ s. false ∷ s) (sym (sides-within (i - 2 ^ d) (n - 2 ^ d) d (omega arith))))

-- A leaf among the first k.
pub sides-left : (k i n : ℕ) → IsPowerOfTwo k → k < n → n ≤ 2 * k → i < k
    → sides_within n i n ≡ true ∷ sides_within k i k
sides-left k i n (d, is) =
    let P : ℕ → Type 0 = λ m. m < n → n ≤ 2 * m → i < m
    → sides_within n i n ≡ true ∷ sides_within m i m in
    subst P (sym is) (left_at d i n)

-- A leaf after the first k.
pub sides-right : (k i n : ℕ) → IsPowerOfTwo k → k < n → n ≤ 2 * k → k ≤ i
    → sides_within n i n ≡ false ∷ sides_within (n - k) (i - k) (n - k)
sides-right k i n (d, is) =
    let P : ℕ → Type 0 = λ m. m < n → n ≤ 2 * m → m ≤ i
    → sides_within n i n ≡ false ∷ sides_within (n - m) (i - m) (n - m) in
    subst P (sym is) (right_at d i n)
