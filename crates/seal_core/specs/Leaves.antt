-- Defines the leaves of a record's tree: the lines of its entries.
use Rattle.std.specs.Prelude.{ℕ, List, map}
use Rattle.std.specs.List.{range_with_len}
use Rattle.posting_core.specs.Book.{Book}
use Rattle.reports.specs.Cells.{joined_words}
use Rattle.reports.specs.Stations.{entry_row_at}

-- The leaf of the entry at index i, from 0: its line as the report of posted entries prints it,
-- without the line feed.
abbrev pub entry_leaf : Book → ℕ → List ℕ
entry_leaf B i = joined_words (entry_row_at B i)

-- The leaves of the first n entries.
abbrev pub leaves : Book → ℕ → List (List ℕ)
leaves B n = map (entry_leaf B) (range_with_len 0 n)
