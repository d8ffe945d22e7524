-- Defines how a setup grows by the rows of a further file: what is listed keeps its number, and
-- what is new goes last. A row with a fault isn't taken. Rows are counted from 1.
use Rattle.std.specs.Prelude.{ℕ, ◌≡◌, ◌+◌, ◌&&◌, Bool, false, not, List, [], ◌∷◌, ◌++◌, fold}
use Rattle.std.specs.Prelude.{Option, Some, None, option_map, if◌then◌else◌}
use Rattle.std.specs.List.{list_any}
use Rattle.std.specs.Option.{option_map_or, option_and_then, option_or}
use Rattle.std.specs.Str.{bytes_eq, is_utf8}
use Rattle.nest_core.specs.Museum.{Museum, thing_codes, find_place, is_inside, is_elsewhere}
use Rattle.nest_core.specs.Museum.{listed_now}
use Rattle.nest_core.specs.InOrder.{◌if◌, first_or}
use Rattle.nest_core.specs.SetupRows.{Fields, is_repeated, is_full, item_of}
use Rattle.nest_core.specs.SetupRows.{lacks_normal}
use Rattle.nest_core.specs.SetupRows.{own_fault, rows_of, with_listed}
use Rattle.nest_core.specs.declared.setup_fault.SetupFault.TheVariants.{NotCsv, Repeated}
use Rattle.nest_core.specs.declared.setup_fault.SetupFault.TheVariants.{UnknownNormal, TooMany}
use Rattle.nest_core.specs.declared.grow_fault.GrowFault.{GrowFault}
use Rattle.nest_core.specs.declared.grow_fault.GrowFault.TheVariants.{OtherSide, Setup}
use Rattle.nest_core.specs.declared.setup_row.SetupRow.{SetupRow}
use Rattle.nest_core.specs.declared.setup_row.SetupRow.TheVariants as lists

-- The row has a place that is listed as inside with the word elsewhere, or the other way round.
abbrev pub is_other_side : Museum → SetupRow → Bool
is_other_side S (lists.Station name) = false
is_other_side S (lists.Place code inside) =
    option_map_or (λ p. if inside then is_elsewhere S p else is_inside S p) (find_place S code)
    false
is_other_side S (lists.Thing code normal) = false

-- The first fault of the item that row n lists, in the setup with the rows before it: OtherSide,
-- UnknownNormal, TooMany.
abbrev pub taking_fault : Museum → ℕ → SetupRow → Option GrowFault
taking_fault S n item = first_or None (
    (Some (OtherSide n) if is_other_side S item)
    ∷ (Some (Setup (UnknownNormal n)) if lacks_normal S item)
    ∷ (Some (Setup (TooMany n)) if not (is_repeated S item) && is_full S item) ∷ [])

-- The things, where the one with this code has this normal place.
abbrev pub rehomed : List (List ℕ × Option ℕ) → List ℕ → Option ℕ → List (List ℕ × Option ℕ)
rehomed [] code normal = []
rehomed (row ∷ rows) code normal =
    if bytes_eq code row.0 then (row.0, normal) ∷ rows else row ∷ rehomed rows code normal

-- The setup with a further row about an item that it lists. A thing gets the row's normal place.
abbrev pub kept_with : Museum → SetupRow → Museum
kept_with S (lists.Station name) = S
kept_with S (lists.Place code inside) = S
kept_with S (lists.Thing code normal) =
    record S { things = rehomed S.things code (option_and_then (find_place S) normal) }

-- The setup with the item of a further row.
abbrev pub with_taken : Museum → SetupRow → Museum
with_taken S item = if is_repeated S item then kept_with S item else with_listed S item

-- Stations by name, places and things by code, in the order of the rows that list them.
pub record Items : Type 0 where
  pub stations : List (List ℕ)
  pub places : List (List ℕ)
  pub things : List (List ℕ)

-- The item of a row is among these items.
abbrev pub is_among : Items → SetupRow → Bool
is_among items (lists.Station name) = list_any (bytes_eq name) items.stations
is_among items (lists.Place code inside) = list_any (bytes_eq code) items.places
is_among items (lists.Thing code normal) = list_any (bytes_eq code) items.things

-- These items, and the item of one more row.
abbrev pub with_item : Items → SetupRow → Items
with_item items (lists.Station name) = record items { stations = items.stations ++ name ∷ [] }
with_item items (lists.Place code inside) = record items { places = items.places ++ code ∷ [] }
with_item items (lists.Thing code normal) = record items { things = items.things ++ code ∷ [] }

-- How far a setup has come in a further file.
pub record Taking : Type 0 where
  -- The setup with the items of the rows that were taken.
  pub setup : Museum
  -- The items that these rows list.
  pub above : Items
  -- The faults of the other rows, in their order.
  pub faults : List GrowFault
  -- The number of the newest row, 0 before the first.
  pub row : ℕ

-- Before the first row.
abbrev pub untaken : Museum → Taking
untaken S = record {
  setup = S;
  above = record { stations = []; places = []; things = [] };
  faults = [];
  row = 0;
}

-- The first fault of the item that the newest row lists: Repeated, and then those in the setup.
abbrev pub item_fault : Taking → SetupRow → Option GrowFault
item_fault T item =
    if is_among T.above item then Some (Setup (Repeated T.row))
    else taking_fault T.setup T.row item

-- The first fault of the newest row: its own, and then those of the item that it lists.
abbrev pub further_fault : Taking → Fields → Option GrowFault
further_fault T row =
    option_or (option_map Setup (own_fault T.row row))
    (option_and_then (item_fault T) (item_of row))

-- The newest row is taken, and lists this item, unless it is skipped.
abbrev pub taken : Taking → Option SetupRow → Taking
taken T None = T
taken T (Some item) =
    record T { setup = with_taken T.setup item; above = with_item T.above item }

-- The newest row has this fault, and isn't taken.
abbrev pub faulted : Taking → GrowFault → Taking
faulted T fault = record T { faults = T.faults ++ fault ∷ [] }

-- The newest row is taken, unless it has a fault.
abbrev pub taken_unless : Taking → Option SetupRow → Option GrowFault → Taking
taken_unless T item None = taken T item
taken_unless T item (Some fault) = faulted T fault

-- At the next row.
abbrev pub at_next : Taking → Taking
at_next T = record T { row = T.row + 1 }

-- After one more row.
abbrev pub with_further : Taking → Fields → Taking
with_further T row = taken_unless (at_next T) (item_of row) (further_fault (at_next T) row)

-- After all rows of a file.
abbrev pub all_taken : Museum → List ℕ → Taking
all_taken S bytes = fold with_further (untaken S) (rows_of bytes)

-- The setup with the rows of a further file that have no fault, in their order. Bytes that are not
-- UTF-8 have no rows.
abbrev pub with_file : Museum → List ℕ → Museum
with_file S bytes = if is_utf8 bytes then (all_taken S bytes).setup else S

-- The faults of a further file: NotCsv if the bytes are not UTF-8, otherwise the first fault of
-- each row that has one, in the order of the rows.
abbrev pub file_faults : Museum → List ℕ → List GrowFault
file_faults S bytes =
    if is_utf8 bytes then (all_taken S bytes).faults else Setup NotCsv ∷ []

-- T lists what S lists with the same numbers, and perhaps more behind. Own objects may have other
-- normal places.
pub record Extends (S T : Museum) : Type 0 where
  pub more_stations : List (List ℕ)
  pub stations : T.stations ≡ S.stations ++ more_stations
  pub more_places : List (List ℕ × Bool)
  pub places : T.places ≡ S.places ++ more_places
  pub more_things : List (List ℕ)
  pub things : thing_codes T ≡ thing_codes S ++ more_things
  pub growths : T.growths ≡ S.growths

-- The setup T that S has become by a growth after this many entries.
abbrev pub grown : ℕ → Museum → Museum → Museum
grown posted S T =
    record T { growths = record { after = posted; listed = listed_now S } ∷ S.growths }
