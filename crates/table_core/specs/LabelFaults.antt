-- Defines how the fault of a labels file is printed: its row and its name.
use Rattle.std.specs.Prelude.{ℕ, List, Option, Some, None, codes}
use Rattle.table_core.specs.declared.labels.fault.LabelFault.{LabelFault}
use Rattle.table_core.specs.declared.labels.fault.LabelFault.TheVariants as fault

-- The row that has the fault. The heading is row 1. None if memory was refused.
abbrev pub row_of : LabelFault → Option ℕ
row_of fault.Heading = Some 1
row_of (fault.Fields n) = Some n
row_of (fault.Repeated n) = Some n
row_of (fault.IsCode n) = Some n
row_of fault.NoMemory = None

-- The name of the fault.
abbrev pub name_of : LabelFault → List ℕ
name_of fault.Heading = codes "Heading"
name_of (fault.Fields n) = codes "Fields"
name_of (fault.Repeated n) = codes "Repeated"
name_of (fault.IsCode n) = codes "IsCode"
name_of fault.NoMemory = codes "NoMemory"
