use Rattle.std.proofs.Common.{◌≡◌, ◌++◌, flat_map, string_bytes, take}
use Rattle.line_files.specs.AuditNotes.{inside_notes}
use Rattle.line_files.proofs.audits.notes.push_seen.Given as goal

abbrev pub invariant-loop-i : goal.invariant-loop-i
invariant-loop-i l =
    string_bytes l.text
    ≡ string_bytes l.fn.text ++ flat_map (inside_notes l.ledger) (take l.i l.seen)
