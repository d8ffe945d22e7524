use Rattle.std.proofs.Common.{ap, false, length, refl, sym, true, ◌∙◌}
use Rattle.std.specs.Prelude.{◌==◌}
use Rattle.csv.specs.Reading.{records, strip_bom}
use Rattle.nest_core.proofs.Tables.{is_text, no_text}
use Rattle.table_core.specs.Sheets.{parted_by}
use Rattle.table_core.proofs.Tables.{both, table}
use Rattle.table_core.proofs.sheet_reader.read_sheet.Goals as goal

pub returns-in_default : goal.returns-in_default
returns-in_default c = record {
  exact = λ other. table c.args.bytes.now false false _ _
      (sym c.is_utf16.ensures ∙ c.if-is_utf16.false)
      (no_text c.args.bytes.now c.in_default.ensures.cases.0) refl refl;
}

pub returns-then-is_empty : goal.returns-then-is_empty
returns-then-is_empty c = record {
  exact = λ other. table c.args.bytes.now false true true _
      (sym c.is_utf16.ensures ∙ c.if-is_utf16.false)
      (is_text c.args.bytes.now c.in-Ok.ensures.cases.1)
      (ap (λ h. length h == 0) (sym c.heading.ensures)
      ∙ sym c.is_empty.ensures ∙ c.if-is_empty.true)
      refl;
}

pub returns-in-None : goal.returns-in-None
returns-in-None c = record {
  exact = λ other. table c.args.bytes.now false true false true
      (sym c.is_utf16.ensures ∙ c.if-is_utf16.false)
      (is_text c.args.bytes.now c.in-Ok.ensures.cases.1)
      (ap (λ h. length h == 0) (sym c.heading.ensures)
      ∙ sym c.is_empty.ensures ∙ c.if-is_empty.false)
      c.in-None.ensures;
}

pub returns-in-Some : goal.returns-in-Some
returns-in-Some c =
    let bytes = c.args.bytes.now in
    let none = table bytes false true false false
    (sym c.is_utf16.ensures ∙ c.if-is_utf16.false)
    (is_text bytes c.in-Ok.ensures.cases.1)
    (ap (λ h. length h == 0) (sym c.heading.ensures)
    ∙ sym c.is_empty.ensures ∙ c.if-is_empty.false)
    c.in-Some.ensures.0 in
    record {
      exact = both c.read_rows.result _ _ _ _ c.read_rows.ensures
          (λ rows e. (
            none,
            e ∙ ap (λ s. records (parted_by s) (strip_bom bytes))
                c.in-Some.ensures.1,
          ))
          (λ fault e other. absurd (other e));
    }
