use Rattle.std.proofs.Common.{◌≡◌, map, take}
use Rattle.line_files.specs.AuditLines.{move_of}
use Rattle.line_files.proofs.audits.lines.moves.Given as goal

abbrev pub invariant-loop-i : goal.invariant-loop-i
invariant-loop-i l = l.moves.items ≡ map (move_of l.day) (take l.i l.seen)
