-- Defines how a ledger keeps the spots of all things in one list, each with the index of the same
-- thing's previous spot.
use Rattle.std.specs.Prelude.{ℕ, zero, suc, ◌≡◌, ◌≤◌, Some, List, [], ◌∷◌, ◌++◌, length, slice_get}
use Rattle.std.specs.Option.{option_map_or}
use Rattle.posting_core.specs.declared.entry.Spot.{Spot}
use Rattle.posting_core.specs.declared.spot_rows.KeptSpot.{KeptSpot}
use Rattle.posting_core.specs.declared.spot_rows.LastSpot.{LastSpot}

-- This many spots of a thing, oldest first. `at` is the index of the last; each spot has the index
-- of the one before it.
abbrev pub spots_at : List KeptSpot → ℕ → ℕ → List Spot
spots_at spots at zero = []
spots_at spots at (suc count) =
    option_map_or (λ s. spots_at spots s.before count ++ s.spot ∷ []) (slice_get spots at) []

-- There is a spot at each of these indices.
abbrev pub LeadBack : List KeptSpot → ℕ → ℕ → Type 0
LeadBack spots at zero = Unit {0}
LeadBack spots at (suc count) =
    (s : KeptSpot) × (slice_get spots at ≡ Some s) × LeadBack spots s.before count

-- The link to a thing's last spot is right: all its spots are in the list. There are no more of
-- them than spots in all, so that their count cannot overflow.
pub record IsLast (spots : List KeptSpot) (last : LastSpot) : Type 0 where
  pub back : LeadBack spots last.at last.count
  pub few : last.count ≤ length spots

-- The view of the list: each thing's spots, oldest first, and room for how many more.
pub record Rows : Type 0 where
  pub rows : List (List Spot)
  pub room : ℕ
