-- Defines what is printed about a setup S that grows to T after some entries.
use Rattle.std.specs.Prelude.{ℕ, ◌==◌, ◌-◌, ◌++◌, ◌∷◌, ◌||◌, [], Bool, List, Option, Some, None}
use Rattle.std.specs.Prelude.{codes, decimal, drop, filter, if◌then◌else◌, length, map, nat_lt, not}
use Rattle.std.specs.Prelude.{slice_get, unwrap_or}
use Rattle.std.specs.List.{join_by, range_with_len}
use Rattle.nest_core.specs.Museum.{Museum, normal_of, place_code_of}
use Rattle.nest_core.specs.Nest.{is_same_place}
use Rattle.reports.specs.declared.setups.growth_counts.GrowthCounts.{GrowthCounts}
use Rattle.reports.specs.Lines.{lines}
use Rattle.reports.specs.SetupFiles.{place_rows, station_rows, thing_rows}

-- The rows of what T lists behind the items of S.
abbrev pub new_rows : Museum → Museum → List (List ℕ)
new_rows S T =
    drop (length S.stations) (station_rows T)
    ++ drop (length S.places) (place_rows T)
    ++ drop (length S.things) (thing_rows T)

-- Thing x has another normal location in T.
abbrev pub is_rehomed : Museum → Museum → ℕ → Bool
is_rehomed S T x = not (is_same_place (normal_of S x) (normal_of T x))

-- The things of S with another normal location in T, in the order of their numbers.
abbrev pub rehomed_things : Museum → Museum → List ℕ
rehomed_things S T = filter (is_rehomed S T) (range_with_len 0 (length S.things))

abbrev pub former_normal : Museum → Option ℕ → List ℕ
former_normal S None = codes "(had none)"
former_normal S (Some p) = codes "(was " ++ unwrap_or (place_code_of S p) [] ++ codes ")"

-- The row of thing x in T, and its normal location in S.
abbrev pub rehomed_row : Museum → Museum → ℕ → List ℕ
rehomed_row S T x =
    unwrap_or (slice_get (thing_rows T) x) [] ++ codes "  " ++ former_normal S (normal_of S x)

-- How much is new, and how many things have another normal location.
abbrev pub counts : Museum → Museum → GrowthCounts
counts S T = record {
  places = length T.places - length S.places;
  things = length T.things - length S.things;
  stations = length T.stations - length S.stations;
  normal_locations = length (rehomed_things S T);
}

abbrev pub is_any : GrowthCounts → Bool
is_any c =
    nat_lt 0 c.places || nat_lt 0 c.things || nat_lt 0 c.stations || nat_lt 0 c.normal_locations

-- Something is new in T, or has another normal location.
abbrev pub has_changes : Museum → Museum → Bool
has_changes S T = is_any (counts S T)

-- A count with its noun, in the plural unless it is 1. A count of 0 is left out.
abbrev pub counted : ℕ → List ℕ → List (List ℕ)
counted count noun =
    if count == 0 then []
    else (decimal count ++ codes " " ++ noun ++ (if count == 1 then [] else codes "s")) ∷ []

abbrev pub counts_text : GrowthCounts → List ℕ
counts_text c = join_by (λ t. t) (codes ", ") (
    counted c.places (codes "place")
    ++ counted c.things (codes "thing")
    ++ counted c.stations (codes "station")
    ++ counted c.normal_locations (codes "normal location"))

-- The last line of the growth after this many entries.
abbrev pub last_line : ℕ → GrowthCounts → List ℕ
last_line posted c =
    lines (codes "grown after entry ") ((decimal posted ++ codes ": " ++ counts_text c) ∷ [])

-- The growth from S to T after this many entries.
abbrev pub growth_text : Museum → Museum → ℕ → List ℕ
growth_text S T posted =
    if has_changes S T then
    lines (codes "+ ") (new_rows S T)
    ++ lines (codes "~ ") (map (rehomed_row S T) (rehomed_things S T))
    ++ last_line posted (counts S T)
    else codes "nothing to add\n"
