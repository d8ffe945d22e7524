-- Defines which fault of a table's lines stands for those of lower crates.
use Rattle.table_core.specs.declared.sheet_fault.SheetFault.{SheetFault}
use Rattle.table_core.specs.declared.sheet_fault.SheetFault.TheVariants as sheet
use Rattle.table_core.specs.declared.table_fault.TableFault.{TableFault}
use Rattle.table_core.specs.declared.table_fault.TableFault.TheVariants as table
use Rattle.table_core.specs.declared.printed.lines_fault.LinesFault.{LinesFault}
use Rattle.table_core.specs.declared.printed.lines_fault.LinesFault.TheVariants.{Sheet, Heading}
use Rattle.table_core.specs.declared.printed.lines_fault.LinesFault.TheVariants.{Rows, NoMemory}

abbrev pub of_sheet : SheetFault → LinesFault
of_sheet sheet.Utf16 = Sheet sheet.Utf16
of_sheet sheet.NotUtf8 = Sheet sheet.NotUtf8
of_sheet sheet.Empty = Sheet sheet.Empty
of_sheet sheet.TwoSeparators = Sheet sheet.TwoSeparators
of_sheet sheet.NoMemory = NoMemory

abbrev pub of_table : TableFault → LinesFault
of_table (table.Heading fault) = Heading fault
of_table (table.Rows faults) = Rows faults
of_table table.NoMemory = NoMemory
