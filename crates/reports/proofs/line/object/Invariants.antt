use Rattle.std.proofs.Common.{◌≡◌, map, take}
use Rattle.std.specs.Prelude.{string_bytes}
use Rattle.reports.specs.Cells.{members, cell_of}
use Rattle.reports.proofs.line.object.Given as goal

abbrev pub invariant-loop-i : goal.invariant-loop-i
invariant-loop-i l = map string_bytes l.texts.items
    ≡ members (map (λ name. name.now) (take l.i l.names)) (map cell_of (take l.i l.fields))
