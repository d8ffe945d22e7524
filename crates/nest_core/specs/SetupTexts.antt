-- Defines the text rows of a setup, from which it can be read again: stations, then places, then
-- things, each in the order of their numbers. How it grew comes last, the newest growth first.
use Rattle.std.specs.Prelude.{ℕ, Bool, List, [], ◌∷◌, ◌++◌, map, Option, Some, None, unwrap_or}
use Rattle.std.specs.Prelude.{codes, decimal, if◌then◌else◌}
use Rattle.std.specs.List.{join_with_byte}
use Rattle.codes_core.specs.Thing.{thing_kind}
use Rattle.codes_core.specs.declared.thing.ThingKind.{ThingKind}
use Rattle.codes_core.specs.declared.thing.ThingKind.TheVariants.{Own, Borrowed, Container}
use Rattle.nest_core.specs.Museum.{Museum, place_code_of}
use Rattle.nest_core.specs.declared.growth.Growth.{Growth}

abbrev pub station_fields : List ℕ → List (List ℕ)
station_fields name = codes "station" ∷ name ∷ []

abbrev pub place_fields : List ℕ × Bool → List (List ℕ)
place_fields row =
    codes "place" ∷ row.0 ∷ (if row.1 then codes "inside" else codes "elsewhere") ∷ []

-- The first field of a thing's row.
abbrev pub kind_word : ThingKind → List ℕ
kind_word Own = codes "own"
kind_word Borrowed = codes "lent"
kind_word Container = codes "box"

-- The code of the normal place, if the thing has one.
abbrev pub normal_fields : Museum → Option ℕ → List (List ℕ)
normal_fields S None = []
normal_fields S (Some p) = unwrap_or (place_code_of S p) [] ∷ []

abbrev pub thing_fields : Museum → List ℕ × Option ℕ → List (List ℕ)
thing_fields S row = kind_word (thing_kind row.0) ∷ row.0 ∷ normal_fields S row.1

-- The number of entries before the growth, and of the places and things listed until then.
abbrev pub growth_fields : Growth → List (List ℕ)
growth_fields g =
    codes "grew" ∷ decimal g.after ∷ decimal g.listed.places ∷ decimal g.listed.things ∷ []

-- The fields of a row, joined by commas. Names and codes need no quotes.
abbrev pub joined : List (List ℕ) → List ℕ
joined fields = join_with_byte 44 fields

-- All rows of a setup.
abbrev pub setup_rows : Museum → List (List ℕ)
setup_rows S =
    map (λ name. joined (station_fields name)) S.stations
    ++ map (λ row. joined (place_fields row)) S.places
    ++ map (λ row. joined (thing_fields S row)) S.things
    ++ map (λ g. joined (growth_fields g)) S.growths
