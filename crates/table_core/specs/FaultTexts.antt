-- Defines the lines that name the faults of a table.
use Rattle.std.specs.Prelude.{ℕ, ◌++◌, List, codes, decimal}
use Rattle.std.specs.List.{flat_map}
use Rattle.codes_core.specs.declared.fault.CodeFault.{CodeFault}
use Rattle.codes_core.specs.declared.fault.CodeFault.TheVariants as code_faults
use Rattle.table_core.specs.SheetFaults.{name_of}
use Rattle.table_core.specs.declared.fault.CellFault.{CellFault}
use Rattle.table_core.specs.declared.fault.CellFault.TheVariants as cell_faults
use Rattle.table_core.specs.declared.fault.FaultyCell.{FaultyCell}
use Rattle.table_core.specs.declared.fault.HeadingFault.{HeadingFault}
use Rattle.table_core.specs.declared.fault.HeadingFault.TheVariants.{NoHeading, NearHeading}
use Rattle.table_core.specs.declared.fault.HeadingFault.TheVariants.{TwiceHeading}
use Rattle.table_core.specs.Columns.{column_name}
use Rattle.table_core.specs.declared.printed.lines_fault.LinesFault.{LinesFault}
use Rattle.table_core.specs.declared.printed.lines_fault.LinesFault.TheVariants.{Sheet, Heading}
use Rattle.table_core.specs.declared.printed.lines_fault.LinesFault.TheVariants.{Rows, NoMemory}
use Rattle.codes_core.specs.VisibleText.{quoted}

abbrev pub code_words : CodeFault → List ℕ
code_words code_faults.Empty = codes "empty"
code_words code_faults.BadShape = codes "not the form of this code"
code_words code_faults.BadNumber =
    codes "a number outside 1 to 999999, or one that begins with 0"
code_words code_faults.NoSuchDay = codes "no such day"

-- A cell of objects has the fault of one of them.
abbrev pub words_before : CellFault → List ℕ
words_before (cell_faults.BadObject fault) = codes "an object: "
words_before _ = codes ""

abbrev pub words_of : CellFault → List ℕ
words_of cell_faults.Empty = codes "empty"
words_of cell_faults.SpaceBefore = codes "a space before it"
words_of cell_faults.NoBreakSpaceBefore = codes "a no-break space before it"
words_of cell_faults.SpaceBehind = codes "a space at its end"
words_of cell_faults.NoBreakSpaceBehind = codes "a no-break space behind it"
words_of cell_faults.NotAKind = codes "not a kind of message"
words_of (cell_faults.BadCode fault) = code_words fault
words_of cell_faults.NotADay = codes "not a day of a form that is read"
words_of cell_faults.NoSuchDay = codes "no such day"
words_of cell_faults.NotAName = codes "not a name of at most 60 bytes without control bytes"
words_of cell_faults.TooManyObjects = codes "more than 256 objects"
words_of (cell_faults.BadObject fault) = code_words fault
words_of cell_faults.NotANumber = codes "not a number from 1 to 999999"
words_of cell_faults.NumberOutside = codes "empty, and the next number is outside 1 to 999999"

-- The line of a faulty cell: its row, its column, its text as it is with every character visible,
-- and what is wrong.
abbrev pub cell_text : FaultyCell → List ℕ
cell_text cell =
    codes "fault table row " ++ decimal cell.row ++ codes " " ++ column_name cell.column
    ++ codes " " ++ quoted cell.text ++ codes ": " ++ words_before cell.fault
    ++ words_of cell.fault ++ codes "\n"

-- A line for each faulty cell, in their order.
abbrev pub cells_text : List FaultyCell → List ℕ
cells_text cells = flat_map cell_text cells

-- The line of a heading's fault. The columns count from 1.
abbrev pub heading_text : HeadingFault → List ℕ
heading_text NoHeading = codes "fault table NoHeading\n"
heading_text (NearHeading field column) =
    codes "fault table NearHeading column " ++ decimal field ++ codes ": nearly '"
    ++ column_name column ++ codes "'\n"
heading_text (TwiceHeading field column) =
    codes "fault table TwiceHeading column " ++ decimal field ++ codes ": '"
    ++ column_name column ++ codes "' a second time\n"

-- The lines of all faults.
abbrev pub faults_text : LinesFault → List ℕ
faults_text (Sheet fault) = codes "fault table " ++ name_of fault ++ codes "\n"
faults_text (Heading fault) = heading_text fault
faults_text (Rows cells) = cells_text cells.items
faults_text NoMemory = codes "fault memory\n"
