-- Defines how a count marks rows Again: each thing that an earlier row names has a flag.
use Rattle.std.specs.Prelude.{ℕ, ◌≡◌, ◌<◌, ◌==◌, ◌&&◌, not, Bool, true, false, List, length, Option}
use Rattle.std.specs.Prelude.{Some, None, if◌then◌else◌, slice_get, slice_set, unwrap_or}
use Rattle.std.specs.List.{list_any}
use Rattle.std.specs.Option.{option_map_or}
use Rattle.nest_core.specs.Museum.{Museum, is_container}
use Rattle.count_core.specs.declared.answer.CountAnswer.{CountAnswer}
use Rattle.count_core.specs.declared.answer.CountAnswer.TheVariants.{UnknownPlace, Counted}
use Rattle.count_core.specs.declared.answer.CountAnswer.TheVariants.{UnknownObject, Again, Unplaced}
use Rattle.count_core.specs.declared.answer.CountAnswer.TheVariants.{Found, Elsewhere}

-- The flag of thing x. False if there is no thing.
abbrev pub flagged : List Bool → Option ℕ → Bool
flagged flags None = false
flagged flags (Some x) = unwrap_or (slice_get flags x) false

-- The flags with that of thing x set.
abbrev pub with_flag : List Bool → Option ℕ → List Bool
with_flag flags None = flags
with_flag flags (Some x) = slice_set flags x true

-- The answer to a row whose thing has a flag. UnknownPlace comes before Again; every other answer
-- is replaced.
abbrev pub again_for : CountAnswer → CountAnswer
again_for UnknownPlace = UnknownPlace
again_for Counted = Again
again_for UnknownObject = Again
again_for Again = Again
again_for Unplaced = Again
again_for Found = Again
again_for (Elsewhere p) = Again

-- The answer to a row, by whether its thing has a flag.
abbrev pub mark : Bool → CountAnswer → CountAnswer
mark before a = if before then again_for a else a

-- Thing x is an object, not a container, and has no flag.
abbrev pub is_unflagged : Museum → List Bool → ℕ → Bool
is_unflagged S flags x = not (flagged flags (Some x)) && not (is_container S x)

-- For rows of any type. Each row names a number or none.
module _ {X : Type 0} (number : X → Option ℕ) where
  -- One of the rows names x.
  abbrev pub names_by : List X → ℕ → Bool
  names_by rows x = list_any (λ r. option_map_or (λ y. y == x) (number r) false) rows

  -- There is a flag for each number below `count`, set if one of the rows names the number.
  pub record AreNames (count : ℕ) (rows : List X) (flags : List Bool) : Type 0 where
    pub many : length flags ≡ count
    pub each : (x : ℕ) → x < count → flagged flags (Some x) ≡ names_by rows x
