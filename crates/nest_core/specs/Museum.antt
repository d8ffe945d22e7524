-- Defines a setup: the stations, places and things of a museum, each with its position in its list,
-- from 0, as its number.
use Rattle.std.specs.Prelude.{ℕ, ◌≡◌, ◌+◌, ◌≤◌, ◌&&◌, Bool, true, false, not, nat_lt, List, []}
use Rattle.std.specs.Prelude.{length, map, ◌∷◌, Option, Some, None, is_none, option_map, slice_get}
use Rattle.std.specs.Prelude.{if◌then◌else◌}
use Rattle.std.specs.List.{position, list_all}
use Rattle.std.specs.Option.{option_map_or, option_and_then}
use Rattle.std.specs.Str.{bytes_eq}
use Rattle.codes_core.specs.Thing.{thing_fault, thing_kind}
use Rattle.codes_core.specs.Place.{place_fault}
use Rattle.codes_core.specs.declared.thing.ThingKind.{ThingKind}
use Rattle.codes_core.specs.declared.thing.ThingKind.TheVariants.{Own, Borrowed, Container}
use Rattle.nest_core.specs.declared.TheConstants.{MOST_STATIONS, MOST_PLACES, MOST_THINGS}
use Rattle.nest_core.specs.declared.TheConstants.{MOST_GROWTHS}
use Rattle.nest_core.specs.declared.growth.Growth.{Growth}
use Rattle.nest_core.specs.declared.growth.Listed.{Listed}
use Rattle.nest_core.specs.StationName.{is_station_name}

-- Stations by name; places by code, each inside the museum (true) or elsewhere, at a partner;
-- things by code, an own object with its normal place. Numbers are the positions in these lists.
-- Last, how the setup grew, the newest growth first.
pub record Museum : Type 0 where
  pub stations : List (List ℕ)
  pub places : List (List ℕ × Bool)
  pub things : List (List ℕ × Option ℕ)
  pub growths : List Growth

-- A setup without any rows.
abbrev pub no_museum : Museum
no_museum = record { stations = []; places = []; things = []; growths = [] }

abbrev pub place_codes : Museum → List (List ℕ)
place_codes S = map (λ row. row.0) S.places

abbrev pub thing_codes : Museum → List (List ℕ)
thing_codes S = map (λ row. row.0) S.things

-- The number of the station with this name.
abbrev pub find_station : Museum → List ℕ → Option ℕ
find_station S name = position (bytes_eq name) S.stations

-- The number of the place with this code.
abbrev pub find_place : Museum → List ℕ → Option ℕ
find_place S code = position (bytes_eq code) (place_codes S)

-- The number of the thing with this code.
abbrev pub find_thing : Museum → List ℕ → Option ℕ
find_thing S code = position (bytes_eq code) (thing_codes S)

-- How much was listed when this many entries had been posted: what the next growth found, or what
-- is listed now if there was no growth since.
abbrev pub listed_by : List Growth → ℕ → Listed → Listed
listed_by [] posted now = now
listed_by (g ∷ gs) posted now = if nat_lt posted g.after then listed_by gs posted g.listed else now

abbrev pub listed_now : Museum → Listed
listed_now S = record { places = length S.places; things = length S.things }

abbrev pub listed_at : Museum → ℕ → Listed
listed_at S posted = listed_by S.growths posted (listed_now S)

-- No growth found more listed than there was after it.
abbrev pub NeverFell : List Growth → Listed → Type 0
NeverFell [] now = Unit {0}
NeverFell (g ∷ gs) now =
    (g.listed.places ≤ now.places) × (g.listed.things ≤ now.things) × NeverFell gs g.listed

-- The number, if it is less than the count.
abbrev pub among_first : ℕ → Option ℕ → Option ℕ
among_first count found = option_and_then (λ i. if nat_lt i count then Some i else None) found

-- The number of the place with this code, if it was listed when this many entries had been posted.
abbrev pub find_place_at : Museum → ℕ → List ℕ → Option ℕ
find_place_at S posted code = among_first (listed_at S posted).places (find_place S code)

-- The number of the thing with this code, if it was listed when this many entries had been posted.
abbrev pub find_thing_at : Museum → ℕ → List ℕ → Option ℕ
find_thing_at S posted code = among_first (listed_at S posted).things (find_thing S code)

-- The name of station s.
abbrev pub station_name_of : Museum → ℕ → Option (List ℕ)
station_name_of S s = slice_get S.stations s

-- The code of place p.
abbrev pub place_code_of : Museum → ℕ → Option (List ℕ)
place_code_of S p = slice_get (place_codes S) p

-- The code of thing x.
abbrev pub thing_code_of : Museum → ℕ → Option (List ℕ)
thing_code_of S x = slice_get (thing_codes S) x

-- Place p is the museum's own. False if there is no place p.
abbrev pub is_inside : Museum → ℕ → Bool
is_inside S p = option_map_or (λ row. row.1) (slice_get S.places p) false

-- Place p is a partner's. False if there is no place p.
abbrev pub is_elsewhere : Museum → ℕ → Bool
is_elsewhere S p = option_map_or (λ row. not row.1) (slice_get S.places p) false

-- The kind of thing x, by its code.
abbrev pub kind_of : Museum → ℕ → Option ThingKind
kind_of S x = option_map thing_kind (thing_code_of S x)

abbrev pub is_own_kind : ThingKind → Bool
is_own_kind Own = true
is_own_kind Borrowed = false
is_own_kind Container = false

abbrev pub is_borrowed_kind : ThingKind → Bool
is_borrowed_kind Own = false
is_borrowed_kind Borrowed = true
is_borrowed_kind Container = false

abbrev pub is_container_kind : ThingKind → Bool
is_container_kind Own = false
is_container_kind Borrowed = false
is_container_kind Container = true

abbrev pub is_own : Museum → ℕ → Bool
is_own S x = option_map_or is_own_kind (kind_of S x) false

abbrev pub is_borrowed : Museum → ℕ → Bool
is_borrowed S x = option_map_or is_borrowed_kind (kind_of S x) false

abbrev pub is_container : Museum → ℕ → Bool
is_container S x = option_map_or is_container_kind (kind_of S x) false

-- The normal place of thing x. Only an own object has one.
abbrev pub normal_of : Museum → ℕ → Option ℕ
normal_of S x = option_and_then (λ row. row.1) (slice_get S.things x)

-- The number of rows that list the setup and its growths.
abbrev pub row_count : Museum → ℕ
row_count S =
    length S.stations + length S.places + length S.things + length S.growths

-- An own object has a normal place, one of this many places; other things have none.
abbrev pub has_right_normal : ℕ → ThingKind → Option ℕ → Bool
has_right_normal places Own None = false
has_right_normal places Own (Some p) = nat_lt p places
has_right_normal places Borrowed normal = is_none normal
has_right_normal places Container normal = is_none normal

-- The row has the code of a place.
abbrev pub is_place_row : List ℕ × Bool → Bool
is_place_row row = is_none (place_fault row.0)

-- The row has the code of a thing, and a normal place exactly if its kind has one.
abbrev pub is_thing_row : ℕ → List ℕ × Option ℕ → Bool
is_thing_row places row =
    is_none (thing_fault row.0) && has_right_normal places (thing_kind row.0) row.1

-- The invariant of every setup: valid names and codes, none listed twice, and at most 64 stations,
-- 10,000 places, 100,000 things and 10,000 growths.
pub record IsMuseum (S : Museum) : Type 0 where
  pub names : list_all is_station_name S.stations ≡ true
  pub codes_of_places : list_all is_place_row S.places ≡ true
  pub codes_of_things : list_all (is_thing_row (length S.places)) S.things ≡ true
  -- No name or code is listed twice: each is found at its own number.
  pub each_station : (s : ℕ) (name : List ℕ) → station_name_of S s ≡ Some name
      → find_station S name ≡ Some s
  pub each_place : (p : ℕ) (code : List ℕ) → place_code_of S p ≡ Some code
      → find_place S code ≡ Some p
  pub each_thing : (x : ℕ) (code : List ℕ) → thing_code_of S x ≡ Some code
      → find_thing S code ≡ Some x
  pub few_stations : length S.stations ≤ MOST_STATIONS
  pub few_places : length S.places ≤ MOST_PLACES
  pub few_things : length S.things ≤ MOST_THINGS
  pub few_growths : length S.growths ≤ MOST_GROWTHS
  pub never_fell : NeverFell S.growths (listed_now S)
