-- Defines the rows of the long report on where a thing has been. An example of the plain line is
-- above the row.
use Rattle.std.specs.Prelude.{◌∷◌, ◌++◌, ◌-◌, ◌<◌, ◌≤◌, [], ℕ, All, List, length, map}
use Rattle.std.specs.Prelude.{reverse, slice_get}
use Rattle.std.specs.Option.{option_map_or}
use Rattle.nest_core.specs.Museum.{Museum, find_thing}
use Rattle.posting_core.specs.declared.entry.Entry.{Entry}
use Rattle.posting_core.specs.declared.entry.Spot.{Spot}
use Rattle.posting_core.specs.Book.{Book, chain_in, spots_in}
use Rattle.posting_core.specs.Past.{upto}
use Rattle.posting_core.specs.Named.{kind_name, loan_named}
use Rattle.reports.specs.declared.form.Form.{Form}
use Rattle.reports.specs.declared.reports.long_history.Location.{Location}
use Rattle.reports.specs.Forms.{by_form}
use Rattle.reports.specs.Cells.{Cell, in_if, number, text, text_if, texts}
use Rattle.reports.specs.Texts.{station_text, thing_text}
use Rattle.reports.specs.Things.{spot_row}

-- A spot of thing x, and the containers that x was in right after the spot's entry.
abbrev pub location : Book → ℕ → Spot → Location
location B x s = record { spot = s; containers = chain_in (upto B s.entry) x }

-- The locations of thing x, oldest first.
abbrev pub locations : Book → ℕ → List Location
locations B x = map (location B x) (spots_in B x)

-- The loan that the message of an entry names, and the entry's station, number and kind of message.
abbrev pub message_cells : Museum → Entry → List Cell
message_cells S e = text_if (loan_named e.message)
    ∷ text (station_text S e.station)
    ∷ number e.n
    ∷ text (kind_name e.message) ∷ []

-- The codes of the containers, after the word `in` in a plain line.
abbrev pub container_cells : Form → List (List ℕ) → List Cell
container_cells form codes = by_form form (in_if codes ∷ texts codes ∷ []) (texts codes ∷ [])

-- 5 2024-06-04 MUSEUM-X in C1 LO2024.3 PACKING 11 exit
abbrev pub location_row : Museum → Form → Location → Entry → List Cell
location_row S form l e =
    spot_row S l.spot
    ++ (container_cells form (map (thing_text S) l.containers) ++ message_cells S e)

-- The row of a location, with the entry that made it. Entry 1 is at index 0.
abbrev pub long_row : Book → Form → Location → List Cell
long_row B form l =
    option_map_or (location_row B.museum form l) (slice_get (reverse B.posted) (l.spot.entry - 1))
    []

-- The locations of the thing with this code, oldest first.
abbrev pub long_history_rows : Book → Form → List ℕ → List (List Cell)
long_history_rows B form code =
    option_map_or (λ x. map (long_row B form) (locations B x)) (find_thing B.museum code) []

-- The spot's entry is posted, and its place is in the setup.
abbrev pub IsSpotIn : Book → Spot → Type 0
IsSpotIn B s = (0 < s.entry)
    × (s.entry ≤ length B.posted)
    × (s.place < length B.museum.places)

-- The location's entry is posted, and its place and its containers are in the setup.
abbrev pub IsListed : Book → Location → Type 0
IsListed B l = IsSpotIn B l.spot × All (λ c. c < length B.museum.things) l.containers
