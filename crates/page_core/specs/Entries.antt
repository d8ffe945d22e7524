-- Defines the table of the last entries.
use Rattle.std.specs.Prelude.{ℕ, ◌+◌, ◌-◌, ◌∷◌, [], List, length, map, min, reverse}
use Rattle.std.specs.Prelude.{slice_get}
use Rattle.std.specs.List.{range_with_len}
use Rattle.std.specs.Option.{option_map_or}
use Rattle.posting_core.specs.declared.entry.Entry.{Entry}
use Rattle.posting_core.specs.Book.{Book}
use Rattle.posting_core.specs.Past.{upto}
use Rattle.posting_core.specs.VerdictNames.{verdict_name}
use Rattle.reports.specs.Causes.{sentence}
use Rattle.reports.specs.Cells.{Cell, joined_words, number, text}
use Rattle.reports.specs.Texts.{station_text}
use Rattle.reports.specs.Values.{word_if}
use Rattle.page_core.specs.Pieces.{Piece, page_text}
use Rattle.page_core.specs.declared.entries.TheConstants.{MOST_SHOWN}
use Rattle.page_core.specs.Values.{values_row}

-- 12 GAL 7 Cycle, C2 would be inside itself: the entry with this number, from this station and with
-- this cause. No value if there is no cause.
abbrev pub cells_with : ℕ → List ℕ → Entry → List ℕ → List Cell
cells_with number_of_entry station e cause =
    number number_of_entry
    ∷ text station
    ∷ number e.n
    ∷ text (verdict_name e.verdict)
    ∷ word_if cause ∷ []

-- The cause is the sentence of the report `why`, by the record before the entry.
abbrev pub entry_cells : Book → ℕ → Entry → List Cell
entry_cells B number_of_entry e = cells_with number_of_entry (station_text B.museum e.station) e
    (joined_words (sentence B e.message e.verdict))

-- The row of the entry at index i, from 0.
abbrev pub row_of : Book → ℕ → Entry → List Piece
row_of B i e = values_row (entry_cells (upto B i) (i + 1) e)

abbrev pub entry_row : Book → ℕ → List Piece
entry_row B i = option_map_or (row_of B i) (slice_get (reverse B.posted) i) []

abbrev pub entry_text : Book → ℕ → List ℕ
entry_text B i = page_text (entry_row B i)

-- The page shows the last 200 entries, or all of them if there are fewer.
abbrev pub shown : Book → ℕ
shown B = min (length B.posted) MOST_SHOWN

-- The index of the oldest of these.
abbrev pub first_shown : Book → ℕ
first_shown B = length B.posted - shown B

-- The indexes of all of these, the newest entry first.
abbrev pub last_entries : Book → List ℕ
last_entries B = reverse (range_with_len (first_shown B) (shown B))

-- Their rows.
abbrev pub entry_rows : Book → List (List Piece)
entry_rows B = map (entry_row B) (last_entries B)
