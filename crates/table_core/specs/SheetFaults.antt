-- Defines how the fault of a table is printed.
use Rattle.std.specs.Prelude.{ℕ, List, codes}
use Rattle.table_core.specs.declared.sheet_fault.SheetFault.{SheetFault}
use Rattle.table_core.specs.declared.sheet_fault.SheetFault.TheVariants as fault

-- The name of the fault.
abbrev pub name_of : SheetFault → List ℕ
name_of fault.Utf16 = codes "Utf16"
name_of fault.NotUtf8 = codes "NotUtf8"
name_of fault.Empty = codes "Empty"
name_of fault.TwoSeparators = codes "TwoSeparators"
name_of fault.NoMemory = codes "NoMemory"
