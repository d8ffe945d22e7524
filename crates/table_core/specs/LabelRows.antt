-- Defines how the rows of a labels file are read, and its first fault. Row 1 is the heading.
use Rattle.std.specs.Prelude.{ℕ, ◌+◌, ◌==◌, ◌&&◌, ◌||◌, Bool, not, List, [], ◌∷◌, ◌++◌, length, map}
use Rattle.std.specs.Prelude.{filter_map, drop, Option, Some, None, is_some, unwrap_or, slice_get}
use Rattle.std.specs.Prelude.{codes, string_bytes, String, Vec, if◌then◌else◌}
use Rattle.std.specs.declared.alloc.Global.{Global}
use Rattle.std.specs.List.{list_any, position}
use Rattle.std.specs.Option.{option_and_then, option_map_or, option_or}
use Rattle.std.specs.Str.{bytes_eq, str_eq_ignore_ascii_case}
use Rattle.nest_core.specs.Museum.{Museum, find_place, find_thing}
use Rattle.nest_core.specs.InOrder.{◌if◌, first_or}
use Rattle.nest_core.specs.SetupRows.{Fields}
use Rattle.table_core.specs.Labels.{Label, code_of, without_blanks}
use Rattle.table_core.specs.declared.labels.row.Columns.{Columns}
use Rattle.table_core.specs.declared.labels.fault.LabelFault.{LabelFault}
use Rattle.table_core.specs.declared.labels.fault.LabelFault.TheVariants as fault

-- The texts of rows.
abbrev pub texts_of : List (Vec (String Global) Global) → List Fields
texts_of rows = map (λ row. map string_bytes row.items) rows

-- The field is this word, in any case.
abbrev pub is_word : List ℕ → List ℕ → Bool
is_word word field = str_eq_ignore_ascii_case (without_blanks field) word

-- The position of the only field that is this word. None if none is, or more than one.
abbrev pub column : List ℕ → Fields → Option ℕ
column word heading = option_and_then
    (λ i. if list_any (is_word word) (drop (i + 1) heading) then None else Some i)
    (position (is_word word) heading)

-- The columns of a heading. None if it doesn't have each exactly once.
abbrev pub columns_of : Fields → Option Columns
columns_of heading = option_and_then
    (λ label. option_and_then (λ code. Some (record { label = label; code = code }))
    (column (codes "code") heading))
    (column (codes "label") heading)

-- A field of a row without the blanks at its ends. Empty if the row is shorter.
abbrev pub field : Fields → ℕ → List ℕ
field row i = without_blanks (unwrap_or (slice_get row i) [])

abbrev pub is_empty : List ℕ → Bool
is_empty text = length text == 0

-- The label and the code of a row. Either may be empty. None if both are: the row is skipped.
abbrev pub label_in : Columns → Fields → Option Label
label_in columns row =
    if is_empty (field row columns.label) && is_empty (field row columns.code) then None
    else Some (record { label = field row columns.label; code = field row columns.code })

-- The labels of these rows, in their order.
abbrev pub labels_in : Columns → List Fields → List Label
labels_in columns rows = filter_map (label_in columns) rows

-- A place or a thing has this code.
abbrev pub is_listed : Museum → List ℕ → Bool
is_listed S code = is_some (find_place S code) || is_some (find_thing S code)

-- The first fault of the label of row n after these labels: Fields, Repeated, IsCode. A label that
-- is its own code isn't that of something else.
abbrev pub own_fault : Museum → List Label → ℕ → Label → Option LabelFault
own_fault S labels n l = first_or None (
    (Some (fault.Fields n) if is_empty l.label || is_empty l.code)
    ∷ (Some (fault.Repeated n) if is_some (code_of labels l.label))
    ∷ (Some (fault.IsCode n) if not (bytes_eq l.label l.code) && is_listed S l.label) ∷ [])

-- The same for a row that may be skipped.
abbrev pub row_fault : Museum → List Label → ℕ → Option Label → Option LabelFault
row_fault S labels n read = option_and_then (own_fault S labels n) read

-- The fault of the first row that has one, after the heading and the rows `before`.
abbrev pub first_fault : Museum → Columns → List Fields → List Fields → Option LabelFault
first_fault S columns before [] = None
first_fault S columns before (row ∷ rows) =
    option_or
    (row_fault S (labels_in columns before) (length before + 2) (label_in columns row))
    (first_fault S columns (before ++ row ∷ []) rows)

-- The first fault below a heading with these columns: Heading if it lacks one.
abbrev pub fault_below : Museum → List Fields → Option Columns → Option LabelFault
fault_below S rows None = Some fault.Heading
fault_below S rows (Some columns) = first_fault S columns [] rows

-- The first fault of a labels file: Heading, and then the first fault of a row.
abbrev pub label_fault : Museum → List Fields → Option LabelFault
label_fault S [] = Some fault.Heading
label_fault S (heading ∷ rows) = fault_below S rows (columns_of heading)

-- The labels of a labels file.
abbrev pub labels_of : List Fields → List Label
labels_of [] = []
labels_of (heading ∷ rows) =
    option_map_or (λ columns. labels_in columns rows) (columns_of heading) []
