use Rattle.std.proofs.Common.{◌≡◌, map, take}
use Rattle.std.specs.Prelude.{string_bytes}
use Rattle.reports.specs.Cells.{plain_text, cell_of}
use Rattle.reports.proofs.line.plain_texts.Given as goal

abbrev pub invariant-loop-field : goal.invariant-loop-field
invariant-loop-field l =
    map string_bytes l.texts.items ≡ map plain_text (map cell_of (take l.field-index l.fields))
