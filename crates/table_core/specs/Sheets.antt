-- Defines how a table is read as spreadsheets write it: its heading, its separator, its rows, and
-- its first fault.
use Rattle.std.specs.Prelude.{ℕ, ◌==◌, ◌&&◌, ◌||◌, Bool, false, not, nat_eq, nat_lt, List, []}
use Rattle.std.specs.Prelude.{◌∷◌, length, map, filter, take, Option, Some, None, unwrap_or}
use Rattle.std.specs.Prelude.{slice_get, String, Vec, string_bytes, if◌then◌else◌}
use Rattle.std.specs.declared.alloc.Global.{Global}
use Rattle.std.specs.List.{list_any, prefix_len, starts_with}
use Rattle.std.specs.Str.{is_utf8}
use Rattle.csv.specs.Reading.{default_config, records, strip_bom}
use Rattle.csv.specs.declared.parser.Config.{Config}
use Rattle.nest_core.specs.InOrder.{◌if◌, first_or}
use Rattle.table_core.specs.declared.sheet_fault.SheetFault.{SheetFault}
use Rattle.table_core.specs.declared.sheet_fault.SheetFault.TheVariants as fault

-- The texts of rows.
abbrev pub texts_of : List (Vec (String Global) Global) → List (List (List ℕ))
texts_of rows = map (λ row. map string_bytes row.items) rows

-- A byte that isn't a line feed or a carriage return.
abbrev pub is_in_line : ℕ → Bool
is_in_line b = not (b == 10) && not (b == 13)

-- The first line, without a byte order mark before it.
abbrev pub heading_of : List ℕ → List ℕ
heading_of bytes = take (prefix_len is_in_line (strip_bom bytes)) (strip_bom bytes)

-- The bytes begin with a byte order mark of UTF-16, or a byte of the heading is zero.
abbrev pub is_utf16 : List ℕ → Bool
is_utf16 bytes =
    starts_with nat_eq bytes (255 ∷ 254 ∷ [])
    || (starts_with nat_eq bytes (254 ∷ 255 ∷ []) || list_any (λ b. b == 0) (heading_of bytes))

-- The text has the separator outside quotes. The text begins inside quotes if `quoted`.
abbrev pub is_parted_by : ℕ → Bool → List ℕ → Bool
is_parted_by separator quoted [] = false
is_parted_by separator quoted (b ∷ bs) =
    (not quoted && (b == separator))
    || is_parted_by separator (if b == 34 then not quoted else quoted) bs

-- Those of comma, semicolon and tab that part the heading.
abbrev pub separators_of : List ℕ → List ℕ
separators_of bytes = filter (λ s. is_parted_by s false (heading_of bytes)) (44 ∷ 59 ∷ 9 ∷ [])

abbrev pub has_two : List ℕ → Bool
has_two bytes = nat_lt 1 (length (separators_of bytes))

-- The separator that parts the heading. If none does, it is 255, which no text has: then the table
-- has one column.
abbrev pub separator_of : List ℕ → ℕ
separator_of bytes = unwrap_or (slice_get (separators_of bytes) 0) 255

-- How `csv` reads with this separator.
abbrev pub parted_by : ℕ → Config
parted_by separator = record default_config { delimiter = separator }

-- The rows of a table. The heading is the first.
abbrev pub sheet_rows : List ℕ → List (List (List ℕ))
sheet_rows bytes = records (parted_by (separator_of bytes)) (strip_bom bytes)

-- The first fault of a table.
abbrev pub sheet_fault : List ℕ → Option SheetFault
sheet_fault bytes = first_or None (
    (Some fault.Utf16 if is_utf16 bytes)
    ∷ (Some fault.NotUtf8 if not (is_utf8 bytes))
    ∷ (Some fault.Empty if length (heading_of bytes) == 0)
    ∷ (Some fault.TwoSeparators if has_two bytes) ∷ [])
