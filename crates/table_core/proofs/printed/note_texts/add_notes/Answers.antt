use Rattle.std.specs.Prelude.{length, ◌<◌}
use Rattle.std.proofs.Common.{arith, get_or, map, string_bytes}
use Rattle.std.proofs.lemmas.List.{get_or_default}
use Rattle.table_core.specs.NoteTexts.{note_text}
use Rattle.table_core.proofs.GrowingText.{grown}
use Rattle.table_core.proofs.printed.note_texts.add_notes.Goals as goal

pub loop-field-preserved : goal.loop-field-preserved
loop-field-preserved c =
    let field = get_or c.args.unknown.now c.loop-field.field-index 0 in
    let below : c.loop-field.field-index < length c.args.unknown.now =
    omega (arith, c.loop-field-test.true, c.loop-field.auto.field-index-end) in
    grown (note_text (map string_bytes c.args.heading.now)) c.args.unknown.now
    c.loop-field.field-index field (string_bytes c.args.text.now)
    (string_bytes c.loop-field.text) _ below
    (get_or_default c.args.unknown.now c.loop-field.field-index 0 field below)
    c.loop-field.invariant c.in_ok-add_note.ensures
