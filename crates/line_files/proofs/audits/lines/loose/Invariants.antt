use Rattle.std.proofs.Common.{◌≡◌, filter, take}
use Rattle.line_files.specs.AuditLines.{is_loose}
use Rattle.line_files.proofs.audits.lines.loose.Given as goal

abbrev pub invariant-loop-i : goal.invariant-loop-i
invariant-loop-i l = l.loose.items ≡ filter (is_loose l.ledger) (take l.i l.seen)
