use Rattle.std.proofs.Common.{◌≡◌, ◌++◌, map, string_bytes, take}
use Rattle.table_core.specs.NoteTexts.{notes_text}
use Rattle.table_core.proofs.printed.note_texts.add_notes.Given as goal

-- the notes for the fields so far
abbrev pub invariant-loop-field : goal.invariant-loop-field
invariant-loop-field l =
    string_bytes l.text
    ≡ string_bytes l.initial.text
    ++ notes_text (map string_bytes l.heading) (take l.field-index l.unknown)
