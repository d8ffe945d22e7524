use Rattle.std.proofs.Common.{◌≡◌, ◌++◌, take}
use Rattle.std.specs.List.{filter_map}
use Rattle.table_core.specs.RowCells.{cells_of, order_of}
use Rattle.table_core.specs.TableRows.{fault_at}
use Rattle.table_core.proofs.row.push_faults.Given as goal

-- the faults of the columns so far
abbrev pub invariant-loop-column : goal.invariant-loop-column
invariant-loop-column l = l.faults.items ≡ l.initial.faults.items
    ++ filter_map (fault_at (order_of l.cells) l.cells.row (cells_of l.cells))
    (take l.column-index l.columns)
