use Rattle.std.proofs.Common.{◌≡◌, ◌∙◌, [], Some, ap, sym, string_bytes}
use Rattle.std.specs.Option.{unwrap_or}
use Rattle.nest_core.specs.Museum.{Museum, thing_code_of}
use Rattle.line_files.specs.AuditNotes.{thing_text}
use Rattle.line_files.proofs.NoteTexts.{missing_noted}
use Rattle.line_files.proofs.audits.notes.push_missed.Goals as goal

pub returns : goal.returns
returns c =
    let B = c.args.ledger.now in
    let x = c.args.missed.object in
    let named : thing_code_of B.museum x ≡ Some c.thing_code-object.result =
    ap (λ (S : Museum). thing_code_of S x) (sym c.setup.ensures) ∙ c.thing_code-object.ensures in
    let code : c.as_str.result.now ≡ thing_text B.museum x =
    c.as_str.ensures.text ∙ sym (ap (λ o. unwrap_or o []) named) in
    missing_noted c.add-2.result B c.args.missed c.as_str.result.now
    (string_bytes c.args.text.now) (string_bytes c.add.new.text)
    (string_bytes c.push_container.new.text) (string_bytes c.push_place.new.text)
    (string_bytes c.add-2.new.text) code c.in_ok-add.ensures c.in_ok-push_container.ensures
    c.in_ok-push_place.ensures c.add-2.ensures
