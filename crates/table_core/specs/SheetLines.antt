-- Defines what the bytes of a table give: its numbered messages, or its faults.
use Rattle.std.specs.Prelude.{ℕ, ◌≡◌, ⊤, List, [], ◌∷◌, map, Some, None, string_bytes}
use Rattle.std.specs.Prelude.{if◌then◌else◌}
use Rattle.std.specs.Str.{is_utf8}
use Rattle.table_core.specs.Labels.{Label, code_for}
use Rattle.table_core.specs.Sheets.{sheet_fault, sheet_rows}
use Rattle.table_core.specs.declared.options.TableOptions.{TableOptions}
use Rattle.table_core.specs.Tables.{Texts, IsTable, AreFaults, heading_fault}
use Rattle.table_core.specs.declared.printed.lines_fault.LinesFault.{LinesFault}
use Rattle.table_core.specs.declared.printed.lines_fault.LinesFault.TheVariants.{Sheet, Heading}
use Rattle.table_core.specs.declared.printed.lines_fault.LinesFault.TheVariants.{Rows, NoMemory}
use Rattle.table_core.specs.declared.printed.sheet_lines.SheetLines.{SheetLines}

-- What a field is read as: the code of the label that it is, or the field as it is. A code that is
-- not UTF-8, which no labels file has, stands for nothing.
abbrev pub coded : List Label → List ℕ → List ℕ
coded labels field = if is_utf8 (code_for labels field) then code_for labels field else field

-- The rows with codes in place of labels. The heading, which is the first, stays as it is.
abbrev pub coded_rows : List Label → Texts → Texts
coded_rows labels [] = []
coded_rows labels (heading ∷ rows) = heading ∷ map (map (coded labels)) rows

-- The fields of the heading.
abbrev pub first_row : Texts → List (List ℕ)
first_row [] = []
first_row (heading ∷ rows) = heading

-- The rows of a table, with codes in place of labels.
abbrev pub table_rows : List Label → List ℕ → Texts
table_rows labels bytes = coded_rows labels (sheet_rows bytes)

-- The bytes are a table without faults, and these are its messages, its columns that are not used,
-- and its heading.
pub record IsLines (options : TableOptions) (labels : List Label) (bytes : List ℕ)
    (lines : SheetLines) : Type 0 where
  pub sheet : sheet_fault bytes ≡ None
  pub table : IsTable options (table_rows labels bytes) lines.table
  pub heading : map string_bytes lines.heading.items ≡ first_row (sheet_rows bytes)

-- The cause of each fault: the table's own, that of its heading, and those of its rows, if there is
-- no other before them. Memory may be lacking for any table.
abbrev pub IsLinesFault : TableOptions → List Label → List ℕ → LinesFault → Type 0
IsLinesFault options labels bytes (Sheet fault) = sheet_fault bytes ≡ Some fault
IsLinesFault options labels bytes (Heading fault) =
    (sheet_fault bytes ≡ None) × (heading_fault (table_rows labels bytes) ≡ Some fault)
IsLinesFault options labels bytes (Rows faults) =
    (sheet_fault bytes ≡ None) × AreFaults options (table_rows labels bytes) faults.items
IsLinesFault options labels bytes NoMemory = ⊤
