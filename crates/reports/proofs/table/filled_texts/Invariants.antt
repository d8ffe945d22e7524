use Rattle.std.proofs.Common.{◌≡◌, map, take}
use Rattle.std.specs.Prelude.{string_bytes}
use Rattle.reports.specs.Aligned.{filled_texts}
use Rattle.reports.proofs.table.filled_texts.Given as goal

abbrev pub invariant-loop-i : goal.invariant-loop-i
invariant-loop-i l = map string_bytes l.filled.items
    ≡ take l.i (filled_texts l.widths (map string_bytes l.texts))
