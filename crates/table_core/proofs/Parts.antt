-- The bytes before the first that passes a test.
use Rattle.std.proofs.Common.{◌≡◌, ℕ, Bool, not, List, length, take, ap, ◌∙◌}
use Rattle.std.specs.Prelude.{take_while}
use Rattle.std.specs.List.{before_first, position_or_len}
use Rattle.std.proofs.lemmas.List.Folds.{length-prefix_len}

-- their number
pub front_place : (p : ℕ → Bool) (text : List ℕ) (count : ℕ)
    → count ≡ length (take_while (λ b. not (p b)) text) → count ≡ position_or_len p text
front_place p text count at = at ∙ length-prefix_len (λ b. not (p b)) text

pub front_is : (p : ℕ → Bool) (text : List ℕ) (count : ℕ)
    → count ≡ length (take_while (λ b. not (p b)) text) → take count text ≡ before_first p text
front_is p text count at = ap (λ n. take n text) (front_place p text count at)
