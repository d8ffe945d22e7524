use Rattle.std.proofs.Common.{◌≡◌, ◌++◌, map, take}
use Rattle.table_core.specs.Tables.{texts_of}
use Rattle.table_core.specs.SheetLines.{coded}
use Rattle.table_core.proofs.printed.coded_rows.add_coded_rows.Given as goal

-- the rows so far are added
abbrev pub invariant-loop-row : goal.invariant-loop-row
invariant-loop-row l =
    texts_of l.done.items
    ≡ texts_of l.initial.done.items
    ++ map (map (coded l.labels)) (texts_of (take l.row-index l.rows))
