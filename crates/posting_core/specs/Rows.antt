-- Defines the invariant of a ledger's fields: the nest, each thing's spots by number, the loans,
-- and the stations.
use Rattle.std.specs.Prelude.{ℕ, ◌≡◌, ◌<◌, ◌++◌, List, [], ◌∷◌, Option, Some, length, slice_get}
use Rattle.std.specs.Prelude.{slice_set}
use Rattle.std.specs.Option.{option_map_or}
use Rattle.nest_core.specs.declared.put.Target.{Target}
use Rattle.nest_core.specs.declared.put.Target.TheVariants.{At, Within}
use Rattle.nest_core.specs.Museum.{Museum}
use Rattle.nest_core.specs.Nest.{Nested, StandsFor}
use Rattle.posting_core.specs.declared.entry.Entry.{Entry}
use Rattle.posting_core.specs.declared.entry.Spot.{Spot}
use Rattle.posting_core.specs.declared.entry.NewSpot.{NewSpot}
use Rattle.posting_core.specs.History.{puts, place_at, spots}
use Rattle.posting_core.specs.Lawful.{IsLawful}
use Rattle.posting_core.specs.Agreements.{agreed_entries}
use Rattle.posting_core.specs.LoanRows.{LoanRow, loan_rows}
use Rattle.posting_core.specs.Standings.{standing_at}
use Rattle.posting_core.specs.declared.standing.Standing.{Standing}

-- The place that a thing gets from this target.
abbrev pub place_to : Museum → List Entry → Target → Option ℕ
place_to S P (At p) = Some p
place_to S P (Within c) = place_at S P c

-- A thing's spots, by the list that is kept.
abbrev pub row_of : List (List Spot) → ℕ → List Spot
row_of rows x = option_map_or (λ spots. spots) (slice_get rows x) []

-- The rows with each new spot at the end of its thing's row.
abbrev pub rows_after : List (List Spot) → List NewSpot → List (List Spot)
rows_after rows [] = rows
rows_after rows (s ∷ ss) =
    rows_after (slice_set rows s.thing (row_of rows s.thing ++ s.spot ∷ [])) ss

-- The entries are lawful, the nest stands for their puts, and the rows of spots, of loans and of
-- stations are those of looking back.
pub record IsKept (S : Museum) (P : List Entry) (N : Nested) (rows : List (List Spot))
    (L : List LoanRow) (A : List ℕ) (T : List Standing) : Type 0 where
  pub lawful : IsLawful S N.depth P
  pub things : N.things ≡ length S.things
  pub places : N.places ≡ length S.places
  pub nest : StandsFor N (puts S P)
  pub rowed : length rows ≡ length S.things
  pub row : (x : ℕ) → x < length S.things → row_of rows x ≡ spots S P x
  pub loans : L ≡ loan_rows S P
  pub agreed : A ≡ agreed_entries P
  pub stations : length T ≡ length S.stations
  pub standing : (s : ℕ) → s < length S.stations → slice_get T s ≡ Some (standing_at P s)
