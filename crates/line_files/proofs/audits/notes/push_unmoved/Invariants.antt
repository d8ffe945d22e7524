use Rattle.std.proofs.Common.{◌≡◌, ◌++◌, flat_map, string_bytes, take}
use Rattle.line_files.specs.AuditNotes.{unmoved_note}
use Rattle.line_files.proofs.audits.notes.push_unmoved.Given as goal

abbrev pub invariant-loop-i : goal.invariant-loop-i
invariant-loop-i l =
    string_bytes l.text ≡ string_bytes l.fn.text ++ flat_map unmoved_note (take l.i l.unmoved)
