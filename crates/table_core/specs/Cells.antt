-- Defines what is wrong with a cell, by its column.
use Rattle.std.specs.Prelude.{ℕ, ◌&&◌, ◌||◌, ◌==◌, nat_eq, nat_lt, nat_le, Bool, List, []}
use Rattle.std.specs.Prelude.{◌∷◌, length, Option, Some, None, is_some, option_map, if◌then◌else◌}
use Rattle.std.specs.Option.{option_or}
use Rattle.std.specs.List.{filter, list_all, starts_with, ends_with, slice_split}
use Rattle.codes_core.specs.declared.TheConstants.{LONGEST_NAME}
use Rattle.codes_core.specs.declared.fault.CodeFault as code_fault
use Rattle.codes_core.specs.declared.fault.CodeFault.TheVariants as code_faults
use Rattle.codes_core.specs.Grammar.{is_digits, is_right_number, number_of}
use Rattle.codes_core.specs.Thing.{thing_fault}
use Rattle.codes_core.specs.Place.{place_fault}
use Rattle.codes_core.specs.Loan.{loan_fault}
use Rattle.codes_core.specs.Day.{day_fault}
use Rattle.codes_core.specs.Name.{is_name_byte}
use Rattle.posting_core.specs.declared.TheConstants.{MOST_OBJECTS}
use Rattle.table_core.specs.declared.column.Column.{Column}
use Rattle.table_core.specs.declared.column.Column.TheVariants.{Kind, Thing, Container, Place, Day}
use Rattle.table_core.specs.declared.column.Column.TheVariants.{Loan, Partner, Objects, First}
use Rattle.table_core.specs.declared.column.Column.TheVariants.{Last, By, N}
use Rattle.table_core.specs.declared.fault.CellFault.{CellFault}
use Rattle.table_core.specs.declared.fault.CellFault.TheVariants.{Empty, SpaceBefore}
use Rattle.table_core.specs.declared.fault.CellFault.TheVariants.{NoBreakSpaceBefore, SpaceBehind}
use Rattle.table_core.specs.declared.fault.CellFault.TheVariants.{NoBreakSpaceBehind, NotAKind}
use Rattle.table_core.specs.declared.fault.CellFault.TheVariants.{BadCode, NotADay, NoSuchDay}
use Rattle.table_core.specs.declared.fault.CellFault.TheVariants.{NotAName, TooManyObjects}
use Rattle.table_core.specs.declared.fault.CellFault.TheVariants.{BadObject, NotANumber}
use Rattle.table_core.specs.declared.options.DateOrder.{DateOrder}
use Rattle.table_core.specs.Days.{iso_text}
use Rattle.table_core.specs.Kinds.{kind_named}

abbrev pub space : List ℕ
space = 32 ∷ []

-- U+00A0 in UTF-8: it looks like a space.
abbrev pub no_break_space : List ℕ
no_break_space = 194 ∷ 160 ∷ []

-- A space at one of the text's ends: a cell is never trimmed.
abbrev pub end_fault : List ℕ → Option CellFault
end_fault text =
    if starts_with nat_eq text space then Some SpaceBefore
    else (if starts_with nat_eq text no_break_space then Some NoBreakSpaceBefore
    else (if ends_with nat_eq text space then Some SpaceBehind
    else (if ends_with nat_eq text no_break_space then Some NoBreakSpaceBehind else None)))

abbrev pub kind_fault : List ℕ → Option CellFault
kind_fault text = if is_some (kind_named text) then None else Some NotAKind

abbrev pub thing_cell_fault : List ℕ → Option CellFault
thing_cell_fault text = option_map BadCode (thing_fault text)

abbrev pub place_cell_fault : List ℕ → Option CellFault
place_cell_fault text = option_map BadCode (place_fault text)

abbrev pub loan_cell_fault : List ℕ → Option CellFault
loan_cell_fault text = option_map BadCode (loan_fault text)

abbrev pub day_words : code_fault.CodeFault → CellFault
day_words code_faults.NoSuchDay = NoSuchDay
day_words code_faults.Empty = NotADay
day_words code_faults.BadShape = NotADay
day_words code_faults.BadNumber = NotADay

abbrev pub day_cell_fault : DateOrder → List ℕ → Option CellFault
day_cell_fault order text = option_map day_words (day_fault (iso_text order text))

-- The text is not too long for a name, and has no control bytes. A cell is UTF-8, so that makes it
-- a name, unless it is empty.
abbrev pub name_fault : List ℕ → Option CellFault
name_fault text =
    if nat_le (length text) LONGEST_NAME && list_all is_name_byte text then None
    else Some NotAName

-- The number from 1 to 999,999 that the text spells, without a leading 0.
abbrev pub number_in : List ℕ → Option ℕ
number_in text =
    if is_digits text && is_right_number text then Some (number_of text) else None

abbrev pub number_fault : List ℕ → Option CellFault
number_fault text = if is_some (number_in text) then None else Some NotANumber

-- Blanks, commas and semicolons part the objects of a cell.
abbrev pub is_separator : ℕ → Bool
is_separator b = (b == 32) || (b == 44) || (b == 59)

abbrev pub has_bytes : List ℕ → Bool
has_bytes text = nat_lt 0 (length text)

-- The parts that have text.
abbrev pub objects_among : List (List ℕ) → List (List ℕ)
objects_among texts = filter has_bytes texts

-- The objects of a cell: what is between the separators.
abbrev pub object_texts : List ℕ → List (List ℕ)
object_texts text = objects_among (slice_split is_separator text)

-- The fault of the first object that is not the code of a thing.
abbrev pub first_object_fault : List (List ℕ) → Option code_fault.CodeFault
first_object_fault [] = None
first_object_fault (text ∷ texts) = option_or (thing_fault text) (first_object_fault texts)

-- A loan lists at least one object, and at most 256 (`MOST_OBJECTS`).
abbrev pub object_count_fault : ℕ → Option CellFault
object_count_fault count =
    if nat_lt 0 count then (if nat_le count MOST_OBJECTS then None else Some TooManyObjects)
    else Some Empty

abbrev pub objects_fault : List ℕ → Option CellFault
objects_fault text =
    option_or (option_map BadObject (first_object_fault (object_texts text)))
    (object_count_fault (length (object_texts text)))

-- The fault of a text without spaces at its ends, by its column.
abbrev pub value_fault : DateOrder → Column → List ℕ → Option CellFault
value_fault order Kind text = kind_fault text
value_fault order Thing text = thing_cell_fault text
value_fault order Container text = thing_cell_fault text
value_fault order Place text = place_cell_fault text
value_fault order Day text = day_cell_fault order text
value_fault order Loan text = loan_cell_fault text
value_fault order Partner text = place_cell_fault text
value_fault order Objects text = objects_fault text
value_fault order First text = day_cell_fault order text
value_fault order Last text = day_cell_fault order text
value_fault order By text = name_fault text
value_fault order N text = number_fault text

-- The first fault of a cell. A cell without a fault has a value of its column.
abbrev pub cell_fault : DateOrder → Column → List ℕ → Option CellFault
cell_fault order column [] = Some Empty
cell_fault order column (b ∷ bs) =
    option_or (end_fault (b ∷ bs)) (value_fault order column (b ∷ bs))
