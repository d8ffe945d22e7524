use Rattle.std.proofs.Common.{◌≡◌, map, take}
use Rattle.std.specs.Prelude.{string_bytes}
use Rattle.reports.specs.Aligned.{wider, width}
use Rattle.reports.proofs.table.widen.Given as goal

abbrev pub invariant-loop-i : goal.invariant-loop-i
invariant-loop-i l = l.widths.items
    ≡ wider l.fn.widths.items (map width (map string_bytes (take l.i l.texts)))
