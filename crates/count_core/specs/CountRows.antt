-- Defines how the rows of a count list are read, and its first fault. A row has the code of a place
-- and, if a thing was seen there, the code of the thing. Rows are counted from 1.
use Rattle.std.specs.Prelude.{ℕ, ◌+◌, ◌==◌, ◌&&◌, ◌||◌, Bool, not, nat_lt, nat_le, List, [], ◌∷◌}
use Rattle.std.specs.Prelude.{◌++◌, length, filter_map, Option, Some, None, is_none, is_some}
use Rattle.std.specs.Prelude.{if◌then◌else◌}
use Rattle.std.specs.Option.{option_or}
use Rattle.std.specs.Str.{is_utf8}
use Rattle.codes_core.specs.Thing.{thing_fault}
use Rattle.codes_core.specs.Place.{place_fault}
use Rattle.nest_core.specs.SetupRows.{Fields, rows_of, field, field_count}
use Rattle.count_core.specs.declared.TheConstants.{MOST_COUNT_ROWS}
use Rattle.count_core.specs.declared.count_row.CountRow.{CountRow}
use Rattle.count_core.specs.declared.count_fault.CountFault.{CountFault}
use Rattle.count_core.specs.declared.count_fault.CountFault.TheVariants.{NotCsv, BadFields, BadCode}
use Rattle.count_core.specs.declared.count_fault.CountFault.TheVariants.{TooMany}

-- The row has a second field.
abbrev pub has_thing : Fields → Bool
has_thing row = nat_lt 1 (field_count row)

-- The first field is a place's code, and the second, if there is one, a thing's.
abbrev pub has_codes : Fields → Bool
has_codes row =
    is_none (place_fault (field row 0))
    && (not (has_thing row) || is_none (thing_fault (field row 1)))

-- The place and the thing of a row.
abbrev pub count_row : Fields → CountRow
count_row row =
    record { place = field row 0; object = if has_thing row then Some (field row 1) else None }

-- The count row of a row without a fault. A row without a field is skipped.
abbrev pub counted : Fields → Option CountRow
counted row = if field_count row == 0 then None else Some (count_row row)

-- The count rows of these rows, in their order.
abbrev pub counts_of : List Fields → List CountRow
counts_of rows = filter_map counted rows

-- The first fault of row n on its own: BadFields for more than two fields, then BadCode.
abbrev pub own_fault : ℕ → Fields → Option CountFault
own_fault n row =
    if field_count row == 0 then None
    else (if nat_lt 2 (field_count row) then Some (BadFields n)
    else (if not (has_codes row) then Some (BadCode n)
    else None))

-- No more rows can be kept.
abbrev pub is_full : ℕ → Bool
is_full kept = nat_le MOST_COUNT_ROWS kept

-- The first fault of row n after `kept` count rows: its own, or TooMany.
abbrev pub row_fault : ℕ → ℕ → Fields → Option CountFault
row_fault kept n row =
    option_or (own_fault n row)
    (if is_some (counted row) && is_full kept then Some (TooMany n) else None)

-- The fault of the first row that has one, after the rows `before`.
abbrev pub first_fault : List Fields → List Fields → Option CountFault
first_fault before [] = None
first_fault before (row ∷ rows) =
    option_or (row_fault (length (counts_of before)) (length before + 1) row)
    (first_fault (before ++ row ∷ []) rows)

-- The first fault of a count list: NotCsv if the bytes are not UTF-8, then the first fault of a
-- row.
abbrev pub count_fault : List ℕ → Option CountFault
count_fault bytes = if is_utf8 bytes then first_fault [] (rows_of bytes) else Some NotCsv
