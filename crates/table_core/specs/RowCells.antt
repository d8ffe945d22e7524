-- Defines what the code sees of a row as its cells.
use Rattle.std.specs.Prelude.{◌≡◌, ◌<◌, map, length, None, string_bytes}
use Rattle.std.specs.List.{AllByRecursion}
use Rattle.table_core.specs.declared.column.Column.{Column}
use Rattle.table_core.specs.declared.kind.Kind.{Kind}
use Rattle.table_core.specs.declared.options.DateOrder.{DateOrder}
use Rattle.table_core.specs.declared.row_cells.RowCells.{RowCells}
use Rattle.table_core.specs.Cells.{value_fault}
use Rattle.table_core.specs.Kinds.{kind_columns}
use Rattle.table_core.specs.TableRows.{Cells, cell}

abbrev pub cells_of : RowCells → Cells
cells_of row = cell row.options.now row.words.now (map string_bytes row.fields.now)

abbrev pub order_of : RowCells → DateOrder
order_of row = row.options.now.dates

-- The cell has a value of its column.
abbrev pub HasValue : DateOrder → Cells → Column → Type 0
HasValue order cells column =
    (value_fault order column (cells column) ≡ None) × (0 < length (cells column))

-- Each column of the kind has its value.
abbrev pub HasValues : DateOrder → Cells → Kind → Type 0
HasValues order cells kind = AllByRecursion (HasValue order cells) (kind_columns kind)
