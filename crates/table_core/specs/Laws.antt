-- States laws of the messages of a table, and of labels.
use Rattle.std.specs.Prelude.{ℕ, ◌≡◌, ◌+◌, Bool, IsTrue, not, List, [], ◌∷◌, length, map, None}
use Rattle.std.specs.Prelude.{is_some, if◌then◌else◌}
use Rattle.std.specs.List.{position, range_with_len}
use Rattle.std.specs.Str.{bytes_eq}
use Rattle.table_core.specs.LabelRows.{is_listed, label_fault, labels_of}
use Rattle.table_core.specs.Labels.{code_for, without_blanks}
use Rattle.nest_core.specs.Museum.{Museum}
use Rattle.nest_core.specs.SetupRows.{Fields}
use Rattle.table_core.specs.declared.column.Column.{Column}
use Rattle.table_core.specs.declared.column.Column.TheVariants.{N}
use Rattle.table_core.specs.declared.options.TableOptions.{TableOptions}
use Rattle.table_core.specs.Columns.{column_name, word_of}
use Rattle.table_core.specs.TableRows.{is_blank}
use Rattle.table_core.specs.Tables.{Texts, table_faults, table_messages}
use Rattle.table_core.specs.SheetLines.{first_row}

-- The rows that have text, by their numbers, from this number on.
abbrev pub rows_with_text : ℕ → Texts → List ℕ
rows_with_text row [] = []
rows_with_text row (fields ∷ rows) =
    if is_blank fields then rows_with_text (row + 1) rows
    else row ∷ rows_with_text (row + 1) rows

-- The rows below the heading that have text. Row 1 is the heading.
abbrev pub rows_to_read : Texts → List ℕ
rows_to_read [] = []
rows_to_read (heading ∷ rows) = rows_with_text 2 rows

-- Without faults, each row with text has one message, in the order of the rows.
abbrev pub HasMessageOfEachRow : TableOptions → Texts → Type 0
HasMessageOfEachRow options rows =
    table_faults options rows ≡ []
    → map (λ line. line.row) (table_messages options rows) ≡ rows_to_read rows

-- A field of the heading names the column.
abbrev pub has_column : Column → Texts → Bool
has_column column rows =
    is_some (position (bytes_eq (column_name column)) (map word_of (first_row rows)))

-- Without faults and without a column of numbers, the messages have one number after the other.
abbrev pub HasNumbersInOrder : TableOptions → Texts → Type 0
HasNumbersInOrder options rows =
    table_faults options rows ≡ [] → IsTrue (not (has_column N rows))
    → map (λ line. line.number) (table_messages options rows)
    ≡ range_with_len options.first (length (table_messages options rows))

-- Labels that a setup accepts stand for no other code in place of one of the setup. No code has
-- blanks at its ends.
abbrev pub HideNoCode : Museum → List Fields → Type 0
HideNoCode S rows =
    label_fault S rows ≡ None
    → (code : List ℕ) → IsTrue (is_listed S code) → without_blanks code ≡ code
    → code_for (labels_of rows) code ≡ code
