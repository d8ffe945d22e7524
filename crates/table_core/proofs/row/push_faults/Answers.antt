use Rattle.std.proofs.Common.{arith}
use Rattle.table_core.specs.RowCells.{cells_of, order_of}
use Rattle.table_core.specs.TableRows.{fault_at}
use Rattle.table_core.proofs.Growing.{filter_map_more, grown}
use Rattle.table_core.proofs.row.push_faults.Goals as goal

pub loop-column-preserved : goal.loop-column-preserved
loop-column-preserved c =
    let row = c.args.cells.now in
    grown _ _ _ _ _ _ c.loop-column.invariant c.in_ok-push_fault.ensures
    (filter_map_more (fault_at (order_of row) row.row (cells_of row)) c.args.columns.now
    c.loop-column.column-index _
    (omega (arith, c.loop-column-test.true, c.loop-column.auto.column-index-end)))
