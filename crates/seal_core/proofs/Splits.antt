-- Each number above 1 has a largest power of two below it.
use Rattle.std.proofs.Common.{ℕ, zero, suc, ◌*◌, ◌^◌, ◌<◌, ◌≤◌, refl, arith, inl, inr}
use Rattle.std.proofs.lemmas.Bool.{cases_lt}
use Rattle.std.proofs.Math.Nat.{pow-suc}
use Rattle.std.specs.Int.{IsPowerOfTwo}
use Rattle.seal_core.proofs.Depths.{fits_own_number}

-- k leaves on the left of n.
pub record Split (n : ℕ) : Type 0 where
  pub left : ℕ
  pub power : IsPowerOfTwo left
  pub smaller : left < n
  pub largest : n ≤ 2 * left

split_within : (d n : ℕ) → 1 < n → n ≤ 2 ^ d → Split n
split_within zero n more fits = absurd (omega arith)
split_within (suc d) n more fits =
    elim (cases_lt (2 ^ d) n) [
      | inl smaller ↦ record {
        left = 2 ^ d;
        power = (d, refl);
        smaller = smaller;
        largest = omega (arith, pow-suc 2 d);
      }
      | inr within ↦ split_within d n more within
    ]

pub split_of : (n : ℕ) → 1 < n → Split n
split_of n more = split_within n n more (fits_own_number n)
