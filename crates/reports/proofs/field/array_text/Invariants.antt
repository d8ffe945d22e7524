use Rattle.std.proofs.Common.{◌≡◌, map, take}
use Rattle.std.specs.Prelude.{string_bytes}
use Rattle.reports.specs.Cells.{quoted}
use Rattle.reports.proofs.field.array_text.Given as goal

abbrev pub invariant-loop-i : goal.invariant-loop-i
invariant-loop-i l = map string_bytes l.items.items ≡ map quoted (take l.i l.codes)
