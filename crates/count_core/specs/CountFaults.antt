-- Defines how the fault of a count list is printed: its row and its name.
use Rattle.std.specs.Prelude.{ℕ, List, Option, Some, None, codes}
use Rattle.count_core.specs.declared.count_fault.CountFault.{CountFault}
use Rattle.count_core.specs.declared.count_fault.CountFault.TheVariants.{NotCsv, BadFields, BadCode}
use Rattle.count_core.specs.declared.count_fault.CountFault.TheVariants.{TooMany, NoMemory}

-- The row that has the fault. None for a fault of the whole file.
abbrev pub row_of : CountFault → Option ℕ
row_of NotCsv = None
row_of (BadFields n) = Some n
row_of (BadCode n) = Some n
row_of (TooMany n) = Some n
row_of NoMemory = None

-- The name of the fault.
abbrev pub name_of : CountFault → List ℕ
name_of NotCsv = codes "NotCsv"
name_of (BadFields n) = codes "BadFields"
name_of (BadCode n) = codes "BadCode"
name_of (TooMany n) = codes "TooMany"
name_of NoMemory = codes "NoMemory"
