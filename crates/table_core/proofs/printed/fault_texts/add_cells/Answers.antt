use Rattle.std.proofs.Common.{arith, string_bytes}
use Rattle.table_core.specs.FaultTexts.{cell_text}
use Rattle.table_core.proofs.GrowingText.{grown}
use Rattle.table_core.proofs.printed.fault_texts.add_cells.Goals as goal

pub loop-cell-preserved : goal.loop-cell-preserved
loop-cell-preserved c =
    grown cell_text c.args.cells.now c.loop-cell.cell-index c.cell-item.result
    (string_bytes c.args.text.now) (string_bytes c.loop-cell.text) _
    (omega (arith, c.loop-cell-test.true, c.loop-cell.auto.cell-index-end)) c.cell-item.is
    c.loop-cell.invariant c.in_ok-add_cell.ensures
