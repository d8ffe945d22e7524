-- Defines the current and former locations of all things, as the script of the page reads them.
use Rattle.std.specs.Prelude.{ℕ, ◌+◌, ◌∷◌, [], List, codes, length, map, reverse, slice_get}
use Rattle.std.specs.List.{flat_map, range_with_len}
use Rattle.std.specs.Option.{option_map_or}
use Rattle.codes_core.specs.Day.{day_text}
use Rattle.posting_core.specs.declared.entry.Entry.{Entry}
use Rattle.posting_core.specs.declared.entry.NewSpot.{NewSpot}
use Rattle.posting_core.specs.Book.{Book, chain_in, changes_of}
use Rattle.posting_core.specs.Past.{upto}
use Rattle.reports.specs.Texts.{place_text, station_text, thing_text}
use Rattle.reports.specs.Values.{codes_text}
use Rattle.page_core.specs.Pieces.{Piece, page_text}
use Rattle.page_core.specs.Pieces.Piece.{markup, number, text}

-- ["2001.4.1",4,"2024-05-01","S1","C2 C1","PACKING",7], : a location of a thing, as in the report
-- `history`, with the containers that the thing is in right after the entry, innermost first, and
-- the station and number of the entry's message. The record is that after the entry.
abbrev pub spot_row : Book → Entry → NewSpot → List Piece
spot_row B e new =
    markup (codes "[\"")
    ∷ text (thing_text B.museum new.thing)
    ∷ markup (codes "\",")
    ∷ number new.spot.entry
    ∷ markup (codes ",\"")
    ∷ text (day_text new.spot.day)
    ∷ markup (codes "\",\"")
    ∷ text (place_text B.museum new.spot.place)
    ∷ markup (codes "\",\"")
    ∷ text (codes_text B.museum (chain_in B new.thing))
    ∷ markup (codes "\",\"")
    ∷ text (station_text B.museum e.station)
    ∷ markup (codes "\",")
    ∷ number e.n
    ∷ markup (codes "],\n") ∷ []

abbrev pub spot_text : Book → Entry → NewSpot → List ℕ
spot_text B e new = page_text (spot_row B e new)

-- The locations to which the entry at index i, from 0, brought things, in the order of the things.
abbrev pub rows_of : Book → ℕ → Entry → List Piece
rows_of B i e = flat_map (spot_row (upto B (i + 1)) e) (changes_of (upto B i) e.message).spots

abbrev pub history_row : Book → ℕ → List Piece
history_row B i = option_map_or (rows_of B i) (slice_get (reverse B.posted) i) []

abbrev pub history_text : Book → ℕ → List ℕ
history_text B i = page_text (history_row B i)

-- The rows of all entries, oldest first.
abbrev pub history_rows : Book → List (List Piece)
history_rows B = map (history_row B) (range_with_len 0 (length B.posted))

abbrev pub histories_text : Book → List ℕ
histories_text B = flat_map (history_text B) (range_with_len 0 (length B.posted))
