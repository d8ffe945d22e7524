-- Defines how the fault of a setup is printed: its row and its name.
use Rattle.std.specs.Prelude.{ℕ, List, Option, Some, None, codes}
use Rattle.nest_core.specs.declared.setup_fault.SetupFault.{SetupFault}
use Rattle.nest_core.specs.declared.setup_fault.SetupFault.TheVariants.{NotCsv, BadKind, BadFields}
use Rattle.nest_core.specs.declared.setup_fault.SetupFault.TheVariants.{BadCode, Repeated}
use Rattle.nest_core.specs.declared.setup_fault.SetupFault.TheVariants.{UnknownNormal, TooMany}
use Rattle.nest_core.specs.declared.setup_fault.SetupFault.TheVariants.{NoStation, NoMemory}

-- The row that has the fault. None for a fault of the whole file.
abbrev pub row_of : SetupFault → Option ℕ
row_of NotCsv = None
row_of (BadKind n) = Some n
row_of (BadFields n) = Some n
row_of (BadCode n) = Some n
row_of (Repeated n) = Some n
row_of (UnknownNormal n) = Some n
row_of (TooMany n) = Some n
row_of NoStation = None
row_of NoMemory = None

-- The name of the fault.
abbrev pub name_of : SetupFault → List ℕ
name_of NotCsv = codes "NotCsv"
name_of (BadKind n) = codes "BadKind"
name_of (BadFields n) = codes "BadFields"
name_of (BadCode n) = codes "BadCode"
name_of (Repeated n) = codes "Repeated"
name_of (UnknownNormal n) = codes "UnknownNormal"
name_of (TooMany n) = codes "TooMany"
name_of NoStation = codes "NoStation"
name_of NoMemory = codes "NoMemory"
