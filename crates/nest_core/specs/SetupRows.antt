-- Defines how the rows of a setup file are read, and the first fault of a setup. Rows are counted
-- from 1.
use Rattle.std.specs.Prelude.{ℕ, ◌+◌, ◌≡◌, ◌≢◌, ◌==◌, ◌&&◌, ◌||◌, Bool, true, false, not, nat_le}
use Rattle.std.specs.Prelude.{List, [], ◌∷◌, ◌++◌, length, fold, Option, Some, None, is_some}
use Rattle.std.specs.Prelude.{is_none, option_map, unwrap_or, slice_get, codes, if◌then◌else◌}
use Rattle.std.specs.Option.{option_map_or, option_and_then, option_or}
use Rattle.std.specs.Str.{bytes_eq, is_utf8}
use Rattle.csv.specs.Reading.{records, default_config, strip_bom}
use Rattle.codes_core.specs.Thing.{thing_fault, thing_kind}
use Rattle.codes_core.specs.Place.{place_fault}
use Rattle.codes_core.specs.declared.thing.ThingKind.{ThingKind}
use Rattle.codes_core.specs.declared.thing.ThingKind.TheVariants.{Own, Borrowed, Container}
use Rattle.nest_core.specs.declared.TheConstants.{MOST_STATIONS, MOST_PLACES, MOST_THINGS}
use Rattle.nest_core.specs.Museum.{Museum, no_museum, find_station, find_place, find_thing}
use Rattle.nest_core.specs.Museum.{is_own_kind, is_borrowed_kind, is_container_kind}
use Rattle.nest_core.specs.StationName.{is_station_name}
use Rattle.nest_core.specs.InOrder.{◌if◌, first_or}
use Rattle.nest_core.specs.declared.setup_fault.SetupFault.{SetupFault}
use Rattle.nest_core.specs.declared.setup_fault.SetupFault.TheVariants.{NotCsv, BadKind, BadFields}
use Rattle.nest_core.specs.declared.setup_fault.SetupFault.TheVariants.{BadCode, Repeated}
use Rattle.nest_core.specs.declared.setup_fault.SetupFault.TheVariants.{UnknownNormal, TooMany}
use Rattle.nest_core.specs.declared.setup_fault.SetupFault.TheVariants.{NoStation}
use Rattle.nest_core.specs.declared.setup_row.RowKind.{RowKind}
use Rattle.nest_core.specs.declared.setup_row.RowKind.TheVariants as kind
use Rattle.nest_core.specs.declared.setup_row.SetupRow.{SetupRow}
use Rattle.nest_core.specs.declared.setup_row.SetupRow.TheVariants as lists

-- The fields of a row.
abbrev pub Fields : Type 0
Fields = List (List ℕ)

-- The rows of a file as `csv` reads them: without a header, after at most one byte order mark.
abbrev pub rows_of : List ℕ → List Fields
rows_of bytes = records default_config (strip_bom bytes)

-- The number of fields of a row, without the empty ones at its end. A row with none is skipped.
abbrev pub field_count : Fields → ℕ
field_count [] = 0
field_count (f ∷ fs) = if (field_count fs == 0) && (length f == 0) then 0 else field_count fs + 1

-- A field of a row, empty if the row is shorter.
abbrev pub field : Fields → ℕ → List ℕ
field row i = unwrap_or (slice_get row i) []

-- The kind of item that a row lists, by the word in its first field: `box` is a container, `lent` a
-- borrowed object.
abbrev pub row_kind : List ℕ → Option RowKind
row_kind word =
    if bytes_eq word (codes "station") then Some kind.Station
    else if bytes_eq word (codes "place") then Some kind.Place
    else if bytes_eq word (codes "box") then Some kind.Box
    else if bytes_eq word (codes "own") then Some kind.Own
    else if bytes_eq word (codes "lent") then Some kind.Lent
    else None

-- The number of fields of a row of this kind, the first word included.
abbrev pub fields_of_kind : RowKind → ℕ
fields_of_kind kind.Station = 2
fields_of_kind kind.Place = 3
fields_of_kind kind.Box = 2
fields_of_kind kind.Own = 3
fields_of_kind kind.Lent = 2

-- The third field of a place is `inside` or `elsewhere`.
abbrev pub has_word : RowKind → Fields → Bool
has_word kind.Place row =
    bytes_eq (field row 2) (codes "inside") || bytes_eq (field row 2) (codes "elsewhere")
has_word _ row = true

abbrev pub is_of_kind : ThingKind → ThingKind → Bool
is_of_kind Own kind = is_own_kind kind
is_of_kind Borrowed kind = is_borrowed_kind kind
is_of_kind Container kind = is_container_kind kind

-- The code of a thing of this kind.
abbrev pub is_thing_code : ThingKind → List ℕ → Bool
is_thing_code wanted code = is_none (thing_fault code) && is_of_kind wanted (thing_kind code)

abbrev pub is_place_code : List ℕ → Bool
is_place_code code = is_none (place_fault code)

-- The name or the codes of a row are those of its kind.
abbrev pub has_codes : RowKind → Fields → Bool
has_codes kind.Station row = is_station_name (field row 1)
has_codes kind.Place row = is_place_code (field row 1)
has_codes kind.Box row = is_thing_code Container (field row 1)
has_codes kind.Own row = is_thing_code Own (field row 1) && is_place_code (field row 2)
has_codes kind.Lent row = is_thing_code Borrowed (field row 1)

-- The station, place or thing that a row of this kind lists.
abbrev pub listed : RowKind → Fields → SetupRow
listed kind.Station row = lists.Station (field row 1)
listed kind.Place row = lists.Place (field row 1) (bytes_eq (field row 2) (codes "inside"))
listed kind.Box row = lists.Thing (field row 1) None
listed kind.Own row = lists.Thing (field row 1) (Some (field row 2))
listed kind.Lent row = lists.Thing (field row 1) None

-- An own object has a normal place; other things have none.
abbrev pub has_normal : ThingKind → Option (List ℕ) → Bool
has_normal Own normal = is_some normal
has_normal Borrowed normal = is_none normal
has_normal Container normal = is_none normal

-- The name or code of the row is valid, so that it can be listed.
abbrev pub is_right : SetupRow → Bool
is_right (lists.Station name) = is_station_name name
is_right (lists.Place code inside) = is_place_code code
is_right (lists.Thing code normal) =
    is_none (thing_fault code) && has_normal (thing_kind code) normal

-- An earlier row lists the same station, place or thing.
abbrev pub is_repeated : Museum → SetupRow → Bool
is_repeated S (lists.Station name) = is_some (find_station S name)
is_repeated S (lists.Place code inside) = is_some (find_place S code)
is_repeated S (lists.Thing code normal) = is_some (find_thing S code)

-- No earlier row lists the normal place.
abbrev pub lacks_normal : Museum → SetupRow → Bool
lacks_normal S (lists.Station name) = false
lacks_normal S (lists.Place code inside) = false
lacks_normal S (lists.Thing code normal) =
    option_map_or (λ place. is_none (find_place S place)) normal false

-- The setup already has the most stations, places or things that it can have.
abbrev pub is_full : Museum → SetupRow → Bool
is_full S (lists.Station name) = nat_le MOST_STATIONS (length S.stations)
is_full S (lists.Place code inside) = nat_le MOST_PLACES (length S.places)
is_full S (lists.Thing code normal) = nat_le MOST_THINGS (length S.things)

-- The setup with one more station, place or thing, at the end of its list.
abbrev pub with_listed : Museum → SetupRow → Museum
with_listed S (lists.Station name) = record S { stations = S.stations ++ name ∷ [] }
with_listed S (lists.Place code inside) = record S { places = S.places ++ (code, inside) ∷ [] }
with_listed S (lists.Thing code normal) =
    record S { things = S.things ++ (code, option_and_then (find_place S) normal) ∷ [] }

-- The first fault of the item that row n lists, after the rows before it: Repeated, UnknownNormal,
-- TooMany.
abbrev pub listing_fault : Museum → ℕ → SetupRow → Option SetupFault
listing_fault S n item = first_or None (
    (Some (Repeated n) if is_repeated S item)
    ∷ (Some (UnknownNormal n) if lacks_normal S item)
    ∷ (Some (TooMany n) if is_full S item) ∷ [])

-- The first fault that a row has whatever is listed before it: BadKind, BadFields, BadCode.
abbrev pub kind_fault : ℕ → Fields → Option RowKind → Option SetupFault
kind_fault n row None = Some (BadKind n)
kind_fault n row (Some k) = first_or None (
    (Some (BadFields n) if not ((field_count row == fields_of_kind k) && has_word k row))
    ∷ (Some (BadCode n) if not (has_codes k row)) ∷ [])

-- That of row n. A row with no fields is skipped and has none.
abbrev pub own_fault : ℕ → Fields → Option SetupFault
own_fault n row =
    if field_count row == 0 then None else kind_fault n row (row_kind (field row 0))

-- The item that a row without such a fault lists. A row that is skipped lists none.
abbrev pub item_of : Fields → Option SetupRow
item_of row =
    if field_count row == 0 then None else option_map (λ k. listed k row) (row_kind (field row 0))

-- The first fault of row n: its own, and then those of the item that it lists.
abbrev pub row_fault : Museum → ℕ → Fields → Option SetupFault
row_fault S n row =
    option_or (own_fault n row) (option_and_then (listing_fault S n) (item_of row))

-- The setup with the item of one more row.
abbrev pub with_row : Museum → Fields → Museum
with_row S row = option_map_or (with_listed S) (item_of row) S

-- The row isn't skipped, and has no fault after the rows of S. A reader that runs out of memory may
-- stop only before a row like this one, or at the point where `csv` stopped.
abbrev pub CanBeListed : Museum → Fields → Type 0
CanBeListed S row = (field_count row ≢ 0) × (n : ℕ) × (row_fault S n row ≡ None)

-- The setup that the rows list, in their order.
abbrev pub museum_of : List Fields → Museum
museum_of rows = fold with_row no_museum rows

-- The fault of the first row that has one, after the rows `before`.
abbrev pub first_fault : List Fields → List Fields → Option SetupFault
first_fault before [] = None
first_fault before (row ∷ rows) =
    option_or (row_fault (museum_of before) (length before + 1) row)
    (first_fault (before ++ row ∷ []) rows)

-- NoStation: no row lists a station.
abbrev pub station_fault : Museum → Option SetupFault
station_fault S = if length S.stations == 0 then Some NoStation else None

-- The first fault of a setup: NotCsv if the bytes are not UTF-8, then the first fault of a row,
-- then NoStation.
abbrev pub setup_fault : List ℕ → Option SetupFault
setup_fault bytes =
    if is_utf8 bytes
    then option_or (first_fault [] (rows_of bytes)) (station_fault (museum_of (rows_of bytes)))
    else Some NotCsv
