use Rattle.std.proofs.Common.{◌≡◌, map, take}
use Rattle.std.specs.Prelude.{string_bytes}
use Rattle.reports.specs.Aligned.{row_texts}
use Rattle.reports.specs.Cells.{cell_of}
use Rattle.reports.proofs.table.row_texts.Given as goal

abbrev pub invariant-loop-field : goal.invariant-loop-field
invariant-loop-field l =
    map string_bytes l.texts.items ≡ row_texts (map cell_of (take l.field-index l.row))
