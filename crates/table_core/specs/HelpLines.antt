-- Defines the `help:` line below the faults of a table.
use Rattle.std.specs.Prelude.{ℕ, ◌==◌, Bool, not, List, [], codes, length}
use Rattle.std.specs.Prelude.{option_and_then, slice_get}
use Rattle.std.specs.List.{position}
use Rattle.std.specs.Option.{option_map_or}
use Rattle.table_core.specs.declared.column.Column.{Column}
use Rattle.table_core.specs.declared.column.Column.TheVariants as columns
use Rattle.table_core.specs.declared.fault.CellFault.{CellFault}
use Rattle.table_core.specs.declared.fault.CellFault.TheVariants as cell_faults
use Rattle.table_core.specs.declared.fault.FaultyCell.{FaultyCell}
use Rattle.table_core.specs.declared.printed.lines_fault.LinesFault.{LinesFault}
use Rattle.table_core.specs.declared.printed.lines_fault.LinesFault.TheVariants.{Rows}

-- An empty cell: the option that fills it, if there is one.
abbrev pub empty_help : Column → List ℕ
empty_help columns.Kind = codes "help: --kind fills the empty cells of kind, as in --kind move\n"
empty_help columns.Day = codes "help: --day fills the empty cells of day, as in --day 2024-05-01\n"
empty_help columns.Place =
    codes "help: --place fills the empty cells of place, as in --place A-1\n"
empty_help columns.Loan =
    codes "help: --loan fills the empty cells of loan, as in --loan LO2024.1\n"
empty_help columns.By = codes "help: --by fills the empty cells of by, as in --by 'A. Reader'\n"
empty_help _ = []

abbrev pub thing_help : List ℕ
thing_help =
    codes "help: codes of things are like 1987.12.1, L2024.7 (borrowed) and C1 (a container): --labels reads your own numbers instead\n"

abbrev pub place_help : List ℕ
place_help =
    codes "help: codes of places are like S1-A-3, in capital letters and digits: --labels reads your own names instead\n"

-- A code that is none: the form of its codes.
abbrev pub code_help : Column → List ℕ
code_help columns.Thing = thing_help
code_help columns.Container = thing_help
code_help columns.Objects = thing_help
code_help columns.Place = place_help
code_help columns.Partner = place_help
code_help columns.Loan = codes "help: codes of loans are like LO2024.1 (out) and LI2024.1 (in)\n"
code_help _ = []

unfoldable pub help_by : Column → CellFault → List ℕ
help_by column cell_faults.NotADay =
    codes "help: --dates dmy also reads 31/12/2024, and --dates mdy 12/31/2024\n"
help_by column cell_faults.NotAKind =
    codes "help: the kinds are move, pack, agree, authorise, exit, return, receive, signoff and extend, in small letters\n"
help_by column cell_faults.Empty = empty_help column
help_by column (cell_faults.BadCode fault) = code_help column
help_by column (cell_faults.BadObject fault) = code_help column
help_by column _ = []

-- The help on a faulty cell. Empty if there is none.
abbrev pub help_on : FaultyCell → List ℕ
help_on cell = help_by cell.column cell.fault

abbrev pub has_help : FaultyCell → Bool
has_help cell = not (length (help_on cell) == 0)

-- The help on the first of these cells for which there is help.
abbrev pub first_help : List FaultyCell → List ℕ
first_help cells =
    option_map_or help_on (option_and_then (slice_get cells) (position has_help cells)) []

-- The `help:` line below the faults of a table. Empty if there is none.
abbrev pub help_text : LinesFault → List ℕ
help_text (Rows cells) = first_help cells.items
help_text _ = []
