-- Defines the rows of the tables, by their values.
use Rattle.std.specs.Prelude.{List, map}
use Rattle.reports.specs.Cells.{Cell, plain_text}
use Rattle.page_core.specs.Pieces.{Piece}
use Rattle.page_core.specs.Tables.{table_row}

-- A row of a table with these values. No value is an empty cell.
abbrev pub values_row : List Cell → List Piece
values_row values = table_row (map plain_text values)
