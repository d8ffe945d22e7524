-- Defines the messages of a table's rows, and what is wrong with the rows that have none.
use Rattle.std.specs.Prelude.{ℕ, ℤ, ◌+◌, ◌&&◌, ◌==◌, nat_lt, nat_le, Bool, List, []}
use Rattle.std.specs.Prelude.{◌∷◌, ◌++◌, length, Option, Some, None, unwrap_or}
use Rattle.std.specs.Prelude.{option_map, if◌then◌else◌}
use Rattle.std.specs.Option.{option_map_or, option_to_list}
use Rattle.std.specs.List.{filter_map, position, list_all, slice_index_or}
use Rattle.std.specs.Str.{bytes_eq}
use Rattle.codes_core.specs.Day.{day_number}
use Rattle.posting_core.specs.declared.TheConstants.{LAST_NUMBER}
use Rattle.posting_core.specs.declared.message.Message.{Message}
use Rattle.posting_core.specs.declared.message.Message.TheVariants as message
use Rattle.table_core.specs.declared.column.Column.{Column}
use Rattle.table_core.specs.declared.column.Column.TheVariants.{Kind, Thing, Container, Place, Day}
use Rattle.table_core.specs.declared.column.Column.TheVariants.{Loan, Partner, Objects, First}
use Rattle.table_core.specs.declared.column.Column.TheVariants.{Last, By, N}
use Rattle.table_core.specs.declared.fault.CellFault.TheVariants.{NumberOutside}
use Rattle.table_core.specs.declared.fault.FaultyCell.{FaultyCell}
use Rattle.table_core.specs.declared.kind.Kind as a_kind
use Rattle.table_core.specs.declared.kind.Kind.TheVariants as kinds
use Rattle.table_core.specs.declared.options.DateOrder.{DateOrder}
use Rattle.table_core.specs.declared.options.TableOptions.{TableOptions}
use Rattle.table_core.specs.declared.row.TableLine.{TableLine}
use Rattle.table_core.specs.Cells.{cell_fault, has_bytes, number_in, object_texts}
use Rattle.table_core.specs.Columns.{column_name}
use Rattle.table_core.specs.Days.{iso_text}
use Rattle.table_core.specs.Kinds.{kind_columns, kind_named}

-- The text of a row's cells, by column.
abbrev pub Cells : Type 0
Cells = Column → List ℕ

-- The text that is used for a cell without text.
abbrev pub option_text : TableOptions → Cells
option_text options Kind = options.kind
option_text options Day = options.day
option_text options Place = options.place
option_text options Loan = options.loan
option_text options By = options.by
option_text options _ = []

-- The field in this place. A row may have fewer fields than the heading.
abbrev pub field : List (List ℕ) → Option ℕ → List ℕ
field fields None = []
field fields (Some i) = slice_index_or fields i []

-- The first text, unless it has no bytes.
abbrev pub or_text : List ℕ → List ℕ → List ℕ
or_text [] other = other
or_text (b ∷ bs) other = b ∷ bs

-- The cell of a row in a column: the field below the column's name in the heading, or the option if
-- there is no text.
abbrev pub cell : TableOptions → List (List ℕ) → List (List ℕ) → Cells
cell options words fields column =
    or_text (field fields (position (bytes_eq (column_name column)) words))
    (option_text options column)

-- The day in a column.
abbrev pub day_at : DateOrder → Cells → Column → ℤ
day_at order cells column = day_number (iso_text order (cells column))

-- The message of a row of this kind whose cells have no fault. Cells of other columns are ignored:
-- an option may fill them, or the column may be there for other rows.
abbrev pub message_by : DateOrder → Cells → a_kind.Kind → Message
message_by order cells kinds.Move =
    message.Move (day_at order cells Day) (cells Thing) (cells Place)
message_by order cells kinds.Pack =
    message.Pack (day_at order cells Day) (cells Thing) (cells Container)
message_by order cells kinds.Agree =
    message.Agree (day_at order cells First) (day_at order cells Last) (cells Loan)
    (cells Partner) (object_texts (cells Objects))
message_by order cells kinds.Authorise = message.Authorise (cells By) (cells Loan)
message_by order cells kinds.Exit =
    message.Exit (day_at order cells Day) (cells Thing) (cells Loan)
message_by order cells kinds.Return =
    message.Return (day_at order cells Day) (cells Thing) (cells Loan) (cells Place)
message_by order cells kinds.Receive =
    message.Receive (day_at order cells Day) (cells Thing) (cells Loan) (cells Place)
message_by order cells kinds.SignOff = message.SignOff (cells By)
message_by order cells kinds.Extend = message.Extend (day_at order cells Last) (cells Loan)

-- The fault of a row's cell in a column.
abbrev pub fault_at : DateOrder → ℕ → Cells → Column → Option FaultyCell
fault_at order row cells column =
    option_map (λ fault. record {
      row = row;
      column = column;
      text = cells column;
      fault = fault;
    }) (cell_fault order column (cells column))

-- The columns that are read: those of the row's kind, or the kind alone, if it is none.
abbrev pub row_columns : Cells → List Column
row_columns cells = option_map_or kind_columns (kind_named (cells Kind)) (Kind ∷ [])

-- The number of a row that has none in its column N: that of the options, or one more than the row
-- before it has.
abbrev pub is_number : ℕ → Bool
is_number n = nat_lt 0 n && nat_le n LAST_NUMBER

-- What is wrong with the number of a row: its own, or the next.
abbrev pub number_faults : DateOrder → ℕ → Cells → ℕ → List FaultyCell
number_faults order row cells next =
    if has_bytes (cells N) then option_to_list (fault_at order row cells N)
    else (if is_number next then [] else record {
      row = row;
      column = N;
      text = [];
      fault = NumberOutside;
    } ∷ [])

-- All faults of a row: those of its cells, in the order of its kind's columns, then that of its
-- number.
abbrev pub row_faults : DateOrder → ℕ → Cells → ℕ → List FaultyCell
row_faults order row cells next =
    filter_map (fault_at order row cells) (row_columns cells)
    ++ number_faults order row cells next

-- The number of a row: its own, or the next. A faulty row has a number, too, so that the rows
-- behind it keep theirs when it is mended.
abbrev pub row_number : Cells → ℕ → ℕ
row_number cells next = unwrap_or (number_in (cells N)) next

-- The number after this one. Behind the last there is none.
abbrev pub number_after : ℕ → ℕ
number_after n = if nat_le n LAST_NUMBER then n + 1 else n

-- The line of a row whose kind is this.
abbrev pub line_of : DateOrder → ℕ → Cells → ℕ → a_kind.Kind → TableLine
line_of order row cells next kind = record {
  row = row;
  number = row_number cells next;
  message = message_by order cells kind;
}

-- The line of a row, unless it has a fault.
abbrev pub row_lines : DateOrder → ℕ → Cells → ℕ → List TableLine
row_lines order row cells next =
    if nat_lt 0 (length (row_faults order row cells next)) then []
    else option_to_list (option_map (line_of order row cells next) (kind_named (cells Kind)))

abbrev pub is_space : ℕ → Bool
is_space b = b == 32

-- A row of nothing but spaces is skipped, and takes no number.
abbrev pub is_blank : List (List ℕ) → Bool
is_blank fields = list_all (list_all is_space) fields

-- The number that the row behind this one takes.
abbrev pub step_number : TableOptions → List (List ℕ) → ℕ → List (List ℕ) → ℕ
step_number options words next fields =
    if is_blank fields then next
    else number_after (row_number (cell options words fields) next)

abbrev pub step_lines : TableOptions → List (List ℕ) → ℕ → ℕ → List (List ℕ) → List TableLine
step_lines options words row next fields =
    if is_blank fields then [] else row_lines options.dates row (cell options words fields) next

abbrev pub step_faults : TableOptions → List (List ℕ) → ℕ → ℕ → List (List ℕ) → List FaultyCell
step_faults options words row next fields =
    if is_blank fields then [] else row_faults options.dates row (cell options words fields) next

-- The lines of the rows from this one on. `words` are those of the heading, and `next` is the
-- number that the row takes, unless it has its own.
abbrev pub lines_from : TableOptions → List (List ℕ) → ℕ → ℕ → List (List (List ℕ))
    → List TableLine
lines_from options words row next [] = []
lines_from options words row next (fields ∷ rows) =
    step_lines options words row next fields
    ++ lines_from options words (row + 1) (step_number options words next fields) rows

-- The faults of these rows.
abbrev pub faults_from : TableOptions → List (List ℕ) → ℕ → ℕ → List (List (List ℕ))
    → List FaultyCell
faults_from options words row next [] = []
faults_from options words row next (fields ∷ rows) =
    step_faults options words row next fields
    ++ faults_from options words (row + 1) (step_number options words next fields) rows
