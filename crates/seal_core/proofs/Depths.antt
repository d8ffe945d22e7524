-- Functions of a depth that stay the same once the depth is large enough.
use Rattle.std.proofs.Common.{◌≡◌, ◌∙◌, ℕ, zero, suc, ◌+◌, ◌^◌, ◌≤◌, ap, sym}
use Rattle.std.proofs.Common.{arith}
use Rattle.std.proofs.lemmas.Nat.{pow_pos}
use Rattle.std.proofs.Math.Nat.{suc-add, zero-add, add_comm, pow-suc}

-- Leaves of one number fit in a tree of that depth.
pub fits_own_number : (n : ℕ) → n ≤ 2 ^ n
fits_own_number zero = omega (arith, pow_pos zero)
fits_own_number (suc n) =
    omega (arith, fits_own_number n, pow_pos n, pow-suc 2 n)

-- A number of leaves that fits at a depth fits at greater depths.
fits_more : (n d e : ℕ) → n ≤ 2 ^ d → n ≤ 2 ^ (e + d)
fits_more n d zero fits = rw zero-add fits
fits_more n d (suc e) fits =
    rw (suc-add e d) (omega (arith, fits_more n d e fits, pow-suc 2 (e + d)))

same_above : {A : Type 0} (f : ℕ → A) (n : ℕ) → ((e : ℕ) → n ≤ 2 ^ e → f (suc e) ≡ f e)
    → (d e : ℕ) → n ≤ 2 ^ d → f (e + d) ≡ f d
same_above f n same d zero fits = ap f (zero-add d)
same_above f n same d (suc e) fits =
    ap f (suc-add e d) ∙ same (e + d) (fits_more n d e fits) ∙ same_above f n same d e fits

-- Two depths that are large enough give the same.
pub same_depth : {A : Type 0} (f : ℕ → A) (n : ℕ) → ((e : ℕ) → n ≤ 2 ^ e → f (suc e) ≡ f e)
    → (d e : ℕ) → n ≤ 2 ^ d → n ≤ 2 ^ e → f d ≡ f e
same_depth f n same d e fits_d fits_e =
    sym (same_above f n same d e fits_d) ∙ ap f (add_comm e d) ∙ same_above f n same e d fits_e
