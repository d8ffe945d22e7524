use Rattle.std.proofs.Common.{◌≡◌, ◌++◌, map, string_bytes, take}
use Rattle.export_core.specs.Entries.{movement_row}
use Rattle.export_core.proofs.changes.push_movements.Given as goal

abbrev pub invariant-loop-i : goal.invariant-loop-i
invariant-loop-i l = map string_bytes l.rows.items
    ≡ map string_bytes l.fn.rows.items ++ map (movement_row l.after l.entry) (take l.i l.spots)
