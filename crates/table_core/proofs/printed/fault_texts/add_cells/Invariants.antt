use Rattle.std.proofs.Common.{◌≡◌, ◌++◌, string_bytes, take}
use Rattle.table_core.specs.FaultTexts.{cells_text}
use Rattle.table_core.proofs.printed.fault_texts.add_cells.Given as goal

-- the lines of the cells so far
abbrev pub invariant-loop-cell : goal.invariant-loop-cell
invariant-loop-cell l =
    string_bytes l.text
    ≡ string_bytes l.initial.text ++ cells_text (take l.cell-index l.cells)
