-- The definitions of cells computed on worked texts.
use Rattle.std.specs.Prelude.{◌≡◌, Some, None, [], ◌∷◌, ◌++◌, map, replicate, refl, codes}
use Rattle.codes_core.specs.declared.fault.CodeFault.TheVariants as code_faults
use Rattle.table_core.specs.declared.column.Column.TheVariants.{Kind, Thing, Place, Day, Loan}
use Rattle.table_core.specs.declared.column.Column.TheVariants.{Objects, By, N}
use Rattle.table_core.specs.declared.fault.CellFault.TheVariants.{Empty, SpaceBefore}
use Rattle.table_core.specs.declared.fault.CellFault.TheVariants.{NoBreakSpaceBefore, SpaceBehind}
use Rattle.table_core.specs.declared.fault.CellFault.TheVariants.{NoBreakSpaceBehind, NotAKind}
use Rattle.table_core.specs.declared.fault.CellFault.TheVariants.{BadCode, NotADay, NoSuchDay}
use Rattle.table_core.specs.declared.fault.CellFault.TheVariants.{NotAName}
use Rattle.table_core.specs.declared.fault.CellFault.TheVariants.{BadObject, NotANumber}
use Rattle.table_core.specs.declared.kind.Kind.TheVariants.{Move, SignOff}
use Rattle.table_core.specs.declared.options.DateOrder.TheVariants.{YearFirst, DayFirst, MonthFirst}
use Rattle.table_core.specs.Cells.{cell_fault, no_break_space, number_in, object_texts}
use Rattle.table_core.specs.Days.{iso_text}
use Rattle.table_core.specs.Kinds.{kind_named}

kinds_by_name : map kind_named (codes "move" ∷ codes "signoff" ∷ codes "Move" ∷ [])
    ≡ Some Move ∷ Some SignOff ∷ None ∷ []
kinds_by_name = refl

-- 1 May, by the order of day and month
days_first : map (iso_text DayFirst)
    (codes "1/5/2024" ∷ codes "01.05.2024" ∷ codes "2024-05-01" ∷ [])
    ≡ replicate 3 (codes "2024-05-01")
days_first = refl

months_first : map (iso_text MonthFirst)
    (codes "5/1/2024" ∷ codes "05.1.2024" ∷ codes "2024-05-01" ∷ [])
    ≡ replicate 3 (codes "2024-05-01")
months_first = refl

-- no order, a short year, two marks, three digits, a part too many: not a day
no_days : cell_fault YearFirst Day (codes "1/5/2024")
    ∷ map (cell_fault DayFirst Day)
    (codes "1/5/24" ∷ codes "1/5.2024" ∷ codes "001/5/2024" ∷ codes "1/5/2024/" ∷ [])
    ≡ replicate 5 (Some NotADay)
no_days = refl

-- right days of other orders
no_such_days : cell_fault DayFirst Day (codes "31/4/2024")
    ∷ cell_fault MonthFirst Day (codes "13/5/2024")
    ∷ cell_fault YearFirst Day (codes "2023-02-29") ∷ []
    ≡ replicate 3 (Some NoSuchDay)
no_such_days = refl

right_cells : cell_fault YearFirst Kind (codes "move")
    ∷ cell_fault YearFirst Thing (codes "1987.12.1")
    ∷ cell_fault DayFirst Day (codes "29.2.2024")
    ∷ cell_fault YearFirst Objects (codes "2001.4; 2001.5, L1999.7")
    ∷ cell_fault YearFirst By (codes "Ann")
    ∷ cell_fault YearFirst N (codes "17") ∷ []
    ≡ replicate 6 None
right_cells = refl

-- a space at an end is reported before the code that it spoils
ends : map (cell_fault YearFirst Thing)
    (codes " 1987.12.1" ∷ (no_break_space ++ codes "1987.12.1") ∷ codes "1987.12.1 "
    ∷ (codes "1987.12.1" ++ no_break_space) ∷ codes " " ∷ [])
    ≡ Some SpaceBefore ∷ Some NoBreakSpaceBefore ∷ Some SpaceBehind ∷ Some NoBreakSpaceBehind
    ∷ Some SpaceBefore ∷ []
ends = refl

wrong_cells : cell_fault YearFirst Thing []
    ∷ cell_fault YearFirst Kind (codes "Move")
    ∷ cell_fault YearFirst Thing (codes "1987.012.1")
    ∷ cell_fault YearFirst Place (codes "1987.12.1")
    ∷ cell_fault YearFirst Loan (codes "2024.1")
    ∷ cell_fault YearFirst By (codes "Ann\n")
    ∷ cell_fault YearFirst N (codes "017")
    ∷ cell_fault YearFirst N (codes "1000000") ∷ []
    ≡ Some Empty ∷ Some NotAKind ∷ Some (BadCode code_faults.BadNumber)
    ∷ Some (BadCode code_faults.BadShape) ∷ Some (BadCode code_faults.BadShape)
    ∷ Some NotAName ∷ Some NotANumber ∷ Some NotANumber ∷ []
wrong_cells = refl

-- each of the separators, alone and in a row
parted_objects : object_texts (codes "2001.4;2001.5, 2001.6 ;,2001.7")
    ≡ codes "2001.4" ∷ codes "2001.5" ∷ codes "2001.6" ∷ codes "2001.7" ∷ []
parted_objects = refl

wrong_objects : cell_fault YearFirst Objects (codes "2001.4;2001;2001.05")
    ∷ cell_fault YearFirst Objects (codes ";,") ∷ []
    ≡ Some (BadObject code_faults.BadShape) ∷ Some Empty ∷ []
wrong_objects = refl

a_number : map number_in (codes "999999" ∷ codes "0" ∷ codes "1a" ∷ [] ∷ [])
    ≡ Some 999999 ∷ None ∷ None ∷ None ∷ []
a_number = refl
