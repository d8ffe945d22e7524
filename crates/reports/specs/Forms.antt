-- Defines the text of a report's rows in each of the four forms, and how it is written.
use Rattle.std.specs.Prelude.{◌==◌, ◌++◌, ◌∷◌, [], ℕ, Bool, IsTrue, List, MatchResult, Option}
use Rattle.std.specs.Prelude.{Result, map, take, true}
use Rattle.std.specs.List.{flat_map}
use Rattle.std.specs.Io.KnownBytes.{Appends}
use Rattle.csv.specs.Writing.{default_writer, row_text}
use Rattle.reports.specs.declared.fault.PrintFault.{PrintFault}
use Rattle.reports.specs.declared.fault.PrintFault.TheVariants.{NoMemory, WriteFailed}
use Rattle.reports.specs.declared.form.Form.{Form}
use Rattle.reports.specs.declared.form.Form.TheVariants.{Plain, Csv, Json, Table}
use Rattle.reports.specs.Aligned.{aligned_line, column_widths, row_texts}
use Rattle.reports.specs.Cells.{Cell, plain_text, words_line, object_line}

-- The cells of a row: the words of its plain line, or its values in the other forms.
abbrev pub by_form : Form → List Cell → List Cell → List Cell
by_form Plain words values = words
by_form Csv words values = values
by_form Json words values = values
by_form Table words values = values

-- The widths of a table's columns: each as wide as the widest of its name and its cells. The other
-- forms need no widths.
abbrev pub widths_in : Form → List (List ℕ) → List (List Cell) → List ℕ
widths_in Plain names rows = []
widths_in Csv names rows = []
widths_in Json names rows = []
widths_in Table names rows = column_widths (names ∷ map row_texts rows)

-- The line of a row.
abbrev pub line_text : Form → List (List ℕ) → List ℕ → List Cell → List ℕ
line_text Plain names widths row = words_line row
line_text Csv names widths row = row_text default_writer (map plain_text row)
line_text Json names widths row = object_line names row
line_text Table names widths row = aligned_line widths (row_texts row)

-- The heading: the column names as a line of comma-separated values or of a table. Empty in the
-- other forms.
abbrev pub heading : Form → List (List ℕ) → List ℕ → List ℕ
heading Plain names widths = []
heading Csv names widths = row_text default_writer names
heading Json names widths = []
heading Table names widths = aligned_line widths names

-- The lines of the rows.
abbrev pub lines_text : Form → List (List ℕ) → List ℕ → List (List Cell) → List ℕ
lines_text form names widths rows = flat_map (line_text form names widths) rows

-- The whole text of a report with these rows.
abbrev pub rows_text : Form → List (List ℕ) → List (List Cell) → List ℕ
rows_text form names rows =
    let widths = widths_in form names rows in
    heading form names widths ++ lines_text form names widths rows

-- The text is empty or ends with a line feed.
abbrev pub ends_line : List ℕ → Bool
ends_line [] = true
ends_line (b ∷ []) = b == 10
ends_line (b ∷ c ∷ t) = ends_line (c ∷ t)

-- What can have been written at this fault: whole lines if memory ran out, and any text if the
-- writer failed.
abbrev pub can_end : PrintFault → List ℕ → Bool
can_end NoMemory written = ends_line written
can_end WriteFailed written = true

-- A prefix of the text is written, and whole lines of it if memory ran out.
abbrev pub Stops : Option (List ℕ) → Option (List ℕ) → PrintFault → List ℕ → Type 0
Stops old new fault text =
    (k : ℕ) × IsTrue (can_end fault (take k text)) × Appends old new (take k text)

-- The whole text is written, or after a fault a prefix of it.
abbrev pub Prints : Option (List ℕ) → Option (List ℕ) → Result Unit PrintFault → List ℕ → Type 0
Prints old new result text =
    MatchResult result (λ _. Appends old new text) (λ fault. Stops old new fault text)
