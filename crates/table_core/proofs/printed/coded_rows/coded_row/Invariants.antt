use Rattle.std.proofs.Common.{◌≡◌, map, string_bytes, take}
use Rattle.table_core.specs.SheetLines.{coded}
use Rattle.table_core.proofs.printed.coded_rows.coded_row.Given as goal

-- the fields so far
abbrev pub invariant-loop-field : goal.invariant-loop-field
invariant-loop-field l =
    map string_bytes l.done.items
    ≡ map (coded l.labels) (map string_bytes (take l.field-index l.row))
