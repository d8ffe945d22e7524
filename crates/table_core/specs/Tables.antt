-- Defines what a table gives: its messages, or its faults.
use Rattle.std.specs.Prelude.{ℕ, ◌≡◌, ◌<◌, ⊤, List, [], ◌∷◌, length, map, Option, Some, None, Vec}
use Rattle.std.specs.Prelude.{String, string_bytes}
use Rattle.std.specs.declared.alloc.Global.{Global}
use Rattle.table_core.specs.declared.fault.FaultyCell.{FaultyCell}
use Rattle.table_core.specs.declared.fault.HeadingFault.{HeadingFault}
use Rattle.table_core.specs.declared.fault.HeadingFault.TheVariants.{NoHeading}
use Rattle.table_core.specs.declared.options.TableOptions.{TableOptions}
use Rattle.table_core.specs.declared.row.TableLine.{TableLine}
use Rattle.table_core.specs.declared.table.Table.{Table}
use Rattle.table_core.specs.declared.table_fault.TableFault.{TableFault}
use Rattle.table_core.specs.declared.table_fault.TableFault.TheVariants.{Heading, Rows, NoMemory}
use Rattle.table_core.specs.Columns.{word_of, words_fault, unknown_from}
use Rattle.table_core.specs.TableRows.{faults_from, lines_from}

-- The fields of rows.
abbrev pub Texts : Type 0
Texts = List (List (List ℕ))

-- A row's fields as texts.
abbrev pub fields_of : Vec (String Global) Global → List (List ℕ)
fields_of row = map string_bytes row.items

abbrev pub texts_of : List (Vec (String Global) Global) → Texts
texts_of rows = map fields_of rows

-- The fault of a table's heading, which is its first row.
abbrev pub heading_fault : Texts → Option HeadingFault
heading_fault [] = Some NoHeading
heading_fault (heading ∷ rows) = words_fault [] (map word_of heading)

-- The messages of the rows below the heading, with their numbers.
abbrev pub table_messages : TableOptions → Texts → List TableLine
table_messages options [] = []
table_messages options (heading ∷ rows) =
    lines_from options (map word_of heading) 2 options.first rows

-- All faults of the rows below the heading.
abbrev pub table_faults : TableOptions → Texts → List FaultyCell
table_faults options [] = []
table_faults options (heading ∷ rows) =
    faults_from options (map word_of heading) 2 options.first rows

-- The fields of the heading that name no column.
abbrev pub unknown_fields : Texts → List ℕ
unknown_fields [] = []
unknown_fields (heading ∷ rows) = unknown_from 1 (map word_of heading)

-- The table of rows without any fault.
pub record IsTable (options : TableOptions) (rows : Texts) (table : Table) : Type 0 where
  pub heading : heading_fault rows ≡ None
  pub faults : table_faults options rows ≡ []
  pub lines : table.lines.items ≡ table_messages options rows
  pub unknown : table.unknown.items ≡ unknown_fields rows

-- The rows have these faults, at least one.
pub record AreFaults (options : TableOptions) (rows : Texts) (them : List FaultyCell) : Type 0 where
  pub heading : heading_fault rows ≡ None
  pub faults : them ≡ table_faults options rows
  pub some : 0 < length them

-- The cause of each fault. Memory may be lacking for any table.
abbrev pub IsTableFault : TableOptions → Texts → TableFault → Type 0
IsTableFault options rows (Heading fault) = heading_fault rows ≡ Some fault
IsTableFault options rows (Rows faults) = AreFaults options rows faults.items
IsTableFault options rows NoMemory = ⊤
