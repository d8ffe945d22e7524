-- Defines all faults of a count list, and the number of its rows.
use Rattle.std.specs.Prelude.{ℕ, ◌+◌, List, [], ◌∷◌, ◌++◌, length, if◌then◌else◌}
use Rattle.std.specs.Option.{option_to_list}
use Rattle.std.specs.Str.{is_utf8}
use Rattle.nest_core.specs.SetupRows.{Fields, rows_of}
use Rattle.count_core.specs.CountRows.{counts_of, row_fault}
use Rattle.count_core.specs.declared.count_fault.CountFault.{CountFault}
use Rattle.count_core.specs.declared.count_fault.CountFault.TheVariants.{NotCsv}

-- The first fault of each row that has one, after the rows `before`, in the order of the rows. A
-- row with a fault counts towards the limit.
abbrev pub row_faults : List Fields → List Fields → List CountFault
row_faults before [] = []
row_faults before (row ∷ rows) =
    option_to_list (row_fault (length (counts_of before)) (length before + 1) row)
    ++ row_faults (before ++ row ∷ []) rows

-- All faults of a count list: NotCsv if the bytes are not UTF-8, otherwise those of its rows.
abbrev pub count_faults : List ℕ → List CountFault
count_faults bytes = if is_utf8 bytes then row_faults [] (rows_of bytes) else NotCsv ∷ []

-- The number of rows, without the skipped ones.
abbrev pub row_count : List ℕ → ℕ
row_count bytes = if is_utf8 bytes then length (counts_of (rows_of bytes)) else 0
