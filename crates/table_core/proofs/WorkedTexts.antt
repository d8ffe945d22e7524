-- A small table, from its bytes to what is printed of it.
use Rattle.std.specs.Prelude.{ℕ, ◌≡◌, ◌++◌, List, [], ◌∷◌, codes, refl}
use Rattle.std.specs.Fmt.{digits}
use Rattle.std.specs.Str.{chars, is_utf8}
use Rattle.csv.specs.Machine.{next_record}
use Rattle.csv.specs.Reading.{records_from, strip_bom}
use Rattle.json.specs.Print.{escape_byte}
use Rattle.table_core.specs.Labels.{Label}
use Rattle.posting_core.specs.declared.message.Message.TheVariants.{Authorise}
use Rattle.table_core.specs.declared.column.Column.TheVariants.{Place}
use Rattle.table_core.specs.declared.fault.HeadingFault.TheVariants.{NearHeading}
use Rattle.table_core.specs.declared.options.DateOrder.TheVariants.{YearFirst}
use Rattle.table_core.specs.declared.options.TableOptions.{TableOptions}
use Rattle.table_core.specs.declared.row.TableLine.{TableLine}
use Rattle.table_core.specs.Tables.{Texts, table_faults, table_messages, unknown_fields}
use Rattle.table_core.specs.FaultTexts.{cells_text, heading_text}
use Rattle.table_core.specs.LineTexts.{lines_text}
use Rattle.table_core.specs.NoteTexts.{notes_text}
use Rattle.table_core.specs.SheetLines.{first_row, table_rows}

abbrev options : TableOptions
options = record {
  kind = codes "authorise";
  day = codes "2024-05-01";
  place = [];
  loan = [];
  by = [];
  dates = YearFirst;
  first = 6;
}

-- a barcode of a loan
abbrev labels : List Label
labels = record { label = codes "0012"; code = codes "LO2024.1" } ∷ []

abbrev rows : Texts
rows =
    (codes "loan" ∷ codes "by" ∷ codes "Remarks" ∷ [])
    ∷ (codes "LO2024.1" ∷ codes "Ann" ∷ codes "0012?" ∷ []) ∷ []

-- the label has a blank behind it
rows-read : table_rows labels (codes "loan;by;Remarks\n0012 ;Ann;0012?\n") ≡ rows
unfolding next_record records_from strip_bom is_utf8 chars lib.Utf8.encode
rows-read = refl

abbrev lines : List TableLine
lines =
    record { row = 2; number = 6; message = Authorise (codes "Ann") (codes "LO2024.1") } ∷ []

rows-messages : table_messages options rows ≡ lines
rows-messages = refl

rows-lines : lines_text (codes "REG") lines
    ≡ codes "{\"station\":\"REG\",\"n\":6,\"message\":"
    ++ codes "{\"by\":\"Ann\",\"kind\":\"authorise\",\"loan\":\"LO2024.1\"}}\n"
unfolding escape_byte digits
rows-lines = refl

rows-notes : notes_text (first_row rows) (unknown_fields rows)
    ≡ codes "note: column 3 'Remarks' is not used\n"
unfolding chars lib.Utf8.encode digits
rows-notes = refl

-- a thing with a no-break space behind it, and a place that is none
abbrev faulty : Texts
faulty =
    (codes "kind" ∷ codes "thing" ∷ codes "place" ∷ [])
    ∷ (codes "move" ∷ (codes "1987.12.1" ++ 194 ∷ 160 ∷ []) ∷ codes "s1" ∷ []) ∷ []

faulty-text : cells_text (table_faults options faulty)
    ≡ codes "fault table row 2 thing '1987.12.1\\u{a0}': a no-break space behind it\n"
    ++ codes "fault table row 2 place 's1': not the form of this code\n"
unfolding chars lib.Utf8.encode digits
faulty-text = refl

near-text : heading_text (NearHeading 2 Place)
    ≡ codes "fault table NearHeading column 2: nearly 'place'\n"
unfolding digits
near-text = refl
