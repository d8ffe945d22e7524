-- Defines the table of the stations.
use Rattle.std.specs.Prelude.{◌∷◌, [], ℕ, Bool, List, None, Option, Some, codes, length}
use Rattle.std.specs.Prelude.{map}
use Rattle.std.specs.Prelude.{if◌then◌else◌}
use Rattle.std.specs.List.{range_with_len}
use Rattle.posting_core.specs.Book.{Book}
use Rattle.reports.specs.Cells.{Cell, number, text}
use Rattle.reports.specs.Stations.{has_signed_off, next_number}
use Rattle.reports.specs.Texts.{station_text}
use Rattle.page_core.specs.Pieces.{Piece, page_text}
use Rattle.page_core.specs.Values.{values_row}

-- The number that a station has to send next, or why there is none.
abbrev pub next_cell : Option ℕ → Bool → Cell
next_cell (Some n) signed = number n
next_cell None signed = text (if signed then codes "signed off" else codes "full")

-- GAL 4
abbrev pub station_values : Book → ℕ → List Cell
station_values B s =
    text (station_text B.museum s) ∷ next_cell (next_number B s) (has_signed_off B s) ∷ []

abbrev pub station_row : Book → ℕ → List Piece
station_row B s = values_row (station_values B s)

abbrev pub station_row_text : Book → ℕ → List ℕ
station_row_text B s = page_text (station_row B s)

-- The rows of all stations, in the setup's order.
abbrev pub station_rows : Book → List (List Piece)
station_rows B = map (station_row B) (range_with_len 0 (length B.museum.stations))
