-- Defines the command that the words of a command line choose, or the fault by which they choose
-- none. `fault_of` and `matches_of` are `clap`'s: the kinds of error that it can report for the
-- words, empty if it accepts them, and the values that it then has for each argument.
use Rattle.std.specs.Prelude.{◌≡◌, ◌≢◌, ◌∷◌, [], ℕ, Bool, Box, List, Option, Result, Some, None}
use Rattle.std.specs.Prelude.{MatchResult, codes, find, is_some}
use Rattle.std.specs.Prelude.{◌&&◌, ◌||◌, false, if◌then◌else◌, map, not, option_map, slice_get, true}
use Rattle.std.specs.Prelude.{unwrap_or}
use Rattle.std.specs.Borrow.{Bor}
use Rattle.std.specs.List.{list_any}
use Rattle.std.specs.declared.alloc.Global.{Global}
use Rattle.std.specs.Option.{option_and_then, option_map_or}
use Rattle.std.specs.Str.{bytes_eq}
use Rattle.clap.specs.Words.{App, Row, Text, all_of, first_of, matches_of}
use Rattle.clap.specs.Faults.{fault_of}
use Rattle.clap.specs.Kinds.{IsAmong, Kinds, or_else}
use Rattle.clap.specs.Values.{kind_of}
use Rattle.clap.specs.declared.error.Error.{Error}
use Rattle.clap.specs.declared.error.kind.ErrorKind.{ErrorKind}
use Rattle.clap.specs.declared.error.kind.ErrorKind.TheVariants.{ArgumentConflict, DisplayHelp}
use Rattle.clap.specs.declared.error.kind.ErrorKind.TheVariants.{DisplayVersion, OutOfMemory}
use Rattle.command_words.specs.Commands.{Form, at, audit, away, check_files, commands, contents}
use Rattle.command_words.specs.Commands.{copy, count, desk, gap, lines, resend}
use Rattle.command_words.specs.Commands.{help, history, loan, migrate, overdue, overview, posted}
use Rattle.command_words.specs.Commands.{explain, export, page, receipt, replay, seal, serve}
use Rattle.command_words.specs.Commands.{dues, grow, loans, print_setup, stations, where_is, why}
use Rattle.command_words.specs.declared.command.Report.{Report}
use Rattle.command_words.specs.declared.command.Format.{Format}
use Rattle.command_words.specs.declared.command.Format.TheVariants.{Csv, Json, Lines, Table}
use Rattle.command_words.specs.declared.command.Asked.{Asked}
use Rattle.command_words.specs.declared.command.AuditWords.{AuditWords}
use Rattle.command_words.specs.declared.command.DeskWords.{DeskWords}
use Rattle.command_words.specs.declared.command.Entries.{Entries}
use Rattle.command_words.specs.declared.command.TableWords.{TableWords}
use Rattle.command_words.specs.declared.command.Asked.TheVariants as asked
use Rattle.command_words.specs.declared.command.Chosen.{Chosen}
use Rattle.command_words.specs.declared.command.Chosen.TheVariants as command
use Rattle.command_words.specs.declared.command.WordsFault.{WordsFault}
use Rattle.command_words.specs.declared.command.WordsFault.TheVariants.{Missing, NoMemory, Refused}

-- The texts of borrowed words.
abbrev pub texts_of : List (Bor Text) → List Text
texts_of words = map (λ w. w.now) words

-- The text of a borrowed word.
abbrev pub text_of : Option (Bor Text) → Option Text
text_of word = option_map (λ w. w.now) word

-- The first word is this name.
abbrev pub IsNamed : List Text → Text → Type 0
IsNamed words name = slice_get words 0 ≡ Some name

-- The command whose name is the first word.
abbrev pub form_named : List Text → Option Form
form_named words =
    option_and_then (λ word. find (λ form. bytes_eq word form.app.top.name) commands)
    (slice_get words 0)

-- All values of an argument in `clap`'s matches.
abbrev pub all_in : Text → List Row → List Text
all_in id rows = unwrap_or (all_of id rows) []

-- The value of an argument, the first if there are several.
abbrev pub value : App → List Text → Text → Option Text
value app words id = first_of id (matches_of app words)

-- All values of an argument.
abbrev pub values : App → List Text → Text → List Text
values app words id = all_in id (matches_of app words)

-- An option without a value is in the words: `clap` then has the value true.
abbrev pub is_true : Option Text → Bool
is_true text = option_map_or (λ t. bytes_eq t (codes "true")) text false

abbrev pub is_given : App → List Text → Text → Bool
is_given app words id = is_true (value app words id)

-- The form of a report's rows, by which of --csv, --json and --table are given. None if more than
-- one is.
abbrev pub format_by : Bool → Bool → Bool → Option Format
format_by false false false = Some Lines
format_by true false false = Some Csv
format_by false true false = Some Json
format_by false false true = Some Table
format_by _ _ _ = None

-- The form, by `clap`'s matches.
abbrev pub format_found : List Row → Option Format
format_found rows =
    format_by (is_true (first_of (codes "csv") rows)) (is_true (first_of (codes "json") rows))
    (is_true (first_of (codes "table") rows))

-- The form, by the words.
abbrev pub format_in : App → List Text → Option Format
format_in app words = format_found (matches_of app words)

-- The matches have both files, one form, and perhaps the last entry that the report looks at.
abbrev pub HoldsReport : List Row → Report → Type 0
HoldsReport rows report = (first_of (codes "setup") rows ≡ Some report.setup.now)
    × (first_of (codes "store") rows ≡ Some report.store.now)
    × (first_of (codes "upto") rows ≡ text_of report.upto)
    × (format_found rows ≡ Some report.format)

-- The matches have these values for which entries are listed.
abbrev pub HoldsEntries : List Row → Entries → Type 0
HoldsEntries rows entries = (first_of (codes "from") rows ≡ text_of entries.from)
    × (first_of (codes "to") rows ≡ text_of entries.to)
    × (first_of (codes "station") rows ≡ text_of entries.station)
    × (first_of (codes "thing") rows ≡ text_of entries.thing)
    × (first_of (codes "loan") rows ≡ text_of entries.loan)
    × (is_true (first_of (codes "refused") rows) ≡ entries.refused)

-- The matches have these values for the lines of a table.
abbrev pub HoldsTable : List Row → TableWords → Type 0
HoldsTable rows table = (first_of (codes "setup") rows ≡ Some table.setup.now)
    × (first_of (codes "store") rows ≡ text_of table.store)
    × (first_of (codes "station") rows ≡ Some table.station.now)
    × (first_of (codes "first") rows ≡ text_of table.first)
    × (first_of (codes "kind") rows ≡ text_of table.kind)
    × (first_of (codes "day") rows ≡ text_of table.day)
    × (first_of (codes "place") rows ≡ text_of table.place)
    × (first_of (codes "loan") rows ≡ text_of table.loan)
    × (first_of (codes "by") rows ≡ text_of table.by)
    × (first_of (codes "dates") rows ≡ text_of table.dates)
    × (first_of (codes "labels") rows ≡ text_of table.labels)
    × (is_true (first_of (codes "strict") rows) ≡ table.strict)
    × (first_of (codes "table") rows ≡ Some table.table.now)

-- A value that the command needs is missing.
abbrev pub IsMissing : List Text → List Row → WordsFault → Type 0
IsMissing ids rows fault =
    (fault ≡ Missing) × (list_any (λ id. not (is_some (first_of id rows))) ids ≡ true)

-- The matches have these values for a desk.
abbrev pub HoldsDesk : List Row → DeskWords → Type 0
HoldsDesk rows desk = (first_of (codes "setup") rows ≡ Some desk.setup.now)
    × (first_of (codes "store") rows ≡ Some desk.store.now)
    × (first_of (codes "station") rows ≡ Some desk.station.now)
    × (first_of (codes "day") rows ≡ text_of desk.day)
    × (first_of (codes "log") rows ≡ text_of desk.log)
    × (first_of (codes "labels") rows ≡ text_of desk.labels)
    × (is_true (first_of (codes "bell") rows) ≡ desk.bell)

-- The matches have these values for the moves that a count list asks for.
abbrev pub HoldsAudit : List Row → AuditWords → Type 0
HoldsAudit rows moves = (first_of (codes "setup") rows ≡ Some moves.setup.now)
    × (first_of (codes "store") rows ≡ Some moves.store.now)
    × (first_of (codes "station") rows ≡ Some moves.station.now)
    × (first_of (codes "day") rows ≡ Some moves.day.now)
    × (first_of (codes "first") rows ≡ text_of moves.first)
    × (is_true (first_of (codes "sealed") rows) ≡ moves.sealed)
    × (first_of (codes "list") rows ≡ Some moves.list.now)

-- The first word is this name, and the words of this report name both files and one form.
abbrev pub IsReport : List Text → Text → App → Report → Type 0
IsReport words name app report = IsNamed words name × HoldsReport (matches_of app words) report

-- The words ask this question: the first is its command's name, and its value is the one that they
-- have.
abbrev pub IsAsked : List Text → Report → Asked → Type 0
IsAsked words report (asked.Count list sealed) = IsReport words (codes "count") count.app report
    × (value count.app words (codes "list") ≡ Some list.now)
    × (is_given count.app words (codes "sealed") ≡ sealed)
IsAsked words report (asked.Overdue on) = IsReport words (codes "overdue") overdue.app report
    × (value overdue.app words (codes "on") ≡ Some on.now)
IsAsked words report asked.Away = IsReport words (codes "away") away.app report
IsAsked words report (asked.History code long) = IsReport words (codes "history") history.app report
    × (value history.app words (codes "code") ≡ Some code.now)
    × (is_given history.app words (codes "long") ≡ long)
IsAsked words report asked.Stations = IsReport words (codes "stations") stations.app report
IsAsked words report (asked.Where code) = IsReport words (codes "where") where_is.app report
    × (value where_is.app words (codes "code") ≡ Some code.now)
IsAsked words report (asked.Contents code) = IsReport words (codes "contents") contents.app report
    × (value contents.app words (codes "code") ≡ Some code.now)
IsAsked words report (asked.Loan code) = IsReport words (codes "loan") loan.app report
    × (value loan.app words (codes "code") ≡ Some code.now)
IsAsked words report (asked.At place) = IsReport words (codes "at") at.app report
    × (value at.app words (codes "place") ≡ Some place.now)
IsAsked words report (asked.Posted entries) = IsReport words (codes "posted") posted.app report
    × HoldsEntries (matches_of posted.app words) entries
IsAsked words report (asked.Loans on by only) = IsReport words (codes "loans") loans.app report
    × (value loans.app words (codes "on") ≡ text_of on)
    × (value loans.app words (codes "by") ≡ text_of by)
    × (is_given loans.app words (codes "open") ≡ only)
IsAsked words report (asked.Dues by) = IsReport words (codes "dues") dues.app report
    × (value dues.app words (codes "by") ≡ Some by.now)
IsAsked words report (asked.Why entry) = IsReport words (codes "why") why.app report
    × (value why.app words (codes "entry") ≡ Some entry.now)

-- The first word is the command's name, and each of its values is the one that the words have.
abbrev pub IsChosen : List Text → Chosen → Type 0
IsChosen words (command.Replay own) =
    IsNamed words (codes "replay")
    × (value replay.app words (codes "setup") ≡ Some own.setup.now)
    × (value replay.app words (codes "store") ≡ text_of own.store)
    × (is_given replay.app words (codes "progress") ≡ own.progress)
    × (is_given replay.app words (codes "strict") ≡ own.strict)
    × (is_given replay.app words (codes "why") ≡ own.why)
IsChosen words (command.Serve setup store feeds) = IsNamed words (codes "serve")
    × (value serve.app words (codes "setup") ≡ Some setup.now)
    × (value serve.app words (codes "store") ≡ text_of store)
    × (values serve.app words (codes "feeds") ≡ texts_of feeds.items)
IsChosen words (command.Desk own) = IsNamed words (codes "desk")
    × HoldsDesk (matches_of desk.app words) own
    × (is_given desk.app words (codes "cards") ≡ false)
IsChosen words command.Cards = IsNamed words (codes "desk")
    × (is_given desk.app words (codes "cards") ≡ true)
IsChosen words (command.Lines table) = IsNamed words (codes "lines")
    × HoldsTable (matches_of lines.app words) table
IsChosen words (command.Check setup counts feed) = IsNamed words (codes "check")
    × (value check_files.app words (codes "setup") ≡ text_of setup)
    × (value check_files.app words (codes "counts") ≡ text_of counts)
    × (value check_files.app words (codes "lines") ≡ text_of feed)
IsChosen words (command.Gap own) = IsNamed words (codes "gap")
    × (value gap.app words (codes "setup") ≡ Some own.setup.now)
    × (value gap.app words (codes "store") ≡ Some own.store.now)
    × (value gap.app words (codes "station") ≡ Some own.station.now)
    × (value gap.app words (codes "by") ≡ Some own.by.now)
IsChosen words (command.Resend own) = IsNamed words (codes "resend")
    × (value resend.app words (codes "setup") ≡ Some own.setup.now)
    × (value resend.app words (codes "store") ≡ Some own.store.now)
    × (value resend.app words (codes "station") ≡ Some own.station.now)
    × (value resend.app words (codes "file") ≡ Some own.file.now)
IsChosen words (command.Audit moves) = IsNamed words (codes "audit")
    × HoldsAudit (matches_of audit.app words) moves
IsChosen words (command.Migrate setup store) = IsNamed words (codes "migrate")
    × (value migrate.app words (codes "setup") ≡ Some setup.now)
    × (value migrate.app words (codes "store") ≡ Some store.now)
IsChosen words (command.Copy setup store to) = IsNamed words (codes "copy")
    × (value copy.app words (codes "setup") ≡ Some setup.now)
    × (value copy.app words (codes "store") ≡ Some store.now)
    × (value copy.app words (codes "to") ≡ Some to.now)
IsChosen words (command.Seal own) = IsNamed words (codes "seal")
    × (value seal.app words (codes "setup") ≡ Some own.setup.now)
    × (value seal.app words (codes "store") ≡ Some own.store.now)
    × (value seal.app words (codes "upto") ≡ text_of own.upto)
    × (value seal.app words (codes "check") ≡ text_of own.check)
IsChosen words (command.Receipt own) = IsNamed words (codes "receipt")
    × (value receipt.app words (codes "setup") ≡ Some own.setup.now)
    × (value receipt.app words (codes "store") ≡ Some own.store.now)
    × (value receipt.app words (codes "entry") ≡ Some own.entry.now)
    × (value receipt.app words (codes "upto") ≡ text_of own.upto)
    × (value receipt.app words (codes "check") ≡ None)
IsChosen words (command.CheckReceipt file entry upto) = IsNamed words (codes "receipt")
    × (value receipt.app words (codes "check") ≡ Some file.now)
    × (value receipt.app words (codes "entry") ≡ text_of entry)
    × (value receipt.app words (codes "upto") ≡ text_of upto)
IsChosen words (command.Page own) = IsNamed words (codes "page")
    × (value page.app words (codes "setup") ≡ Some own.setup.now)
    × (value page.app words (codes "store") ≡ Some own.store.now)
    × (value page.app words (codes "on") ≡ text_of own.on)
    × (value page.app words (codes "upto") ≡ text_of own.upto)
IsChosen words (command.Export setup store to) = IsNamed words (codes "export")
    × (value export.app words (codes "setup") ≡ Some setup.now)
    × (value export.app words (codes "store") ≡ Some store.now)
    × (value export.app words (codes "to") ≡ Some to.now)
IsChosen words (command.Grow setup store check) = IsNamed words (codes "grow")
    × (value grow.app words (codes "setup") ≡ Some setup.now)
    × (value grow.app words (codes "store") ≡ Some store.now)
    × (is_given grow.app words (codes "check") ≡ check)
IsChosen words (command.Setup store) = IsNamed words (codes "setup")
    × (value print_setup.app words (codes "store") ≡ Some store.now)
IsChosen words (command.Explain name) = IsNamed words (codes "explain")
    × (value explain.app words (codes "name") ≡ Some name.now)
IsChosen words (command.Help topic) = IsNamed words (codes "help")
    × (value help.app words (codes "topic") ≡ text_of topic)
IsChosen words (command.Report report question) = IsAsked words report question

-- The errors in the words of a report: those of `clap`, and then two of --csv, --json and --table
-- together, reported like any two options that exclude each other.
abbrev pub report_kinds : App → List Text → Kinds
report_kinds app words =
    or_else (fault_of app words)
    (option_map_or (λ format. []) (format_in app words) (ArgumentConflict ∷ []))

-- The errors in words that name this command. Words that name none are read by all commands at
-- once. Empty if there is no error.
abbrev pub kinds_by : Option Form → List Text → Kinds
kinds_by (Some form) words =
    if form.is_report then report_kinds form.app words else fault_of form.app words
kinds_by None words = fault_of overview (codes "pairsalder" ∷ words)

-- `clap`'s matches have the flag or the option with which the command needs no value.
abbrev pub is_waived : Form → List Row → Bool
is_waived form rows =
    option_map_or (λ flag. is_true (first_of flag rows)) form.waiver false
    || option_map_or (λ option. is_some (first_of option rows)) form.other_use false

-- The values that the command needs.
abbrev pub needed_in : Form → List Row → List Text
needed_in form rows = if is_waived form rows then [] else form.needed

-- A value that the command needs is missing, or no command is named.
abbrev pub lacks : Option Form → List Text → Bool
lacks (Some form) words =
    list_any (λ id. not (is_some (value form.app words id)))
    (needed_in form (matches_of form.app words))
lacks None words = true

-- 0 for help and the version, which the user wanted; 2 for a usage error.
abbrev pub status_of_kind : ErrorKind → ℕ
status_of_kind DisplayHelp = 0
status_of_kind DisplayVersion = 0
status_of_kind _ = 2

-- The exit status: 1 if memory ran out.
abbrev pub status_of : WordsFault → ℕ
status_of (Refused error) = status_of_kind (kind_of error)
status_of Missing = 2
status_of NoMemory = 1

-- An error of `clap` is passed on as it is, except out of memory.
abbrev pub FromRefusal : Error → WordsFault → Type 0
FromRefusal error (Refused told) = (told ≡ error) × (kind_of error ≢ OutOfMemory)
FromRefusal error Missing = ⊥
FromRefusal error NoMemory = kind_of error ≡ OutOfMemory

-- `clap` accepts the words, and these are its matches.
abbrev pub IsRead : App → List Text → List Row → Type 0
IsRead app words rows = (fault_of app words ≡ []) × (rows ≡ matches_of app words)

-- The words of a report have no error, and name both files and one form.
abbrev pub GivesReport : App → List Text → Report → Type 0
GivesReport app words report =
    (report_kinds app words ≡ []) × HoldsReport (matches_of app words) report

-- The matches have both forms, or lack a file, or memory ran out.
abbrev pub IsNoReport : List Row → WordsFault → Type 0
IsNoReport rows (Refused error) =
    (format_found rows ≡ None) × (kind_of error ≡ ArgumentConflict)
IsNoReport rows Missing = (is_some (format_found rows) ≡ true)
    × (is_some (first_of (codes "setup") rows) && is_some (first_of (codes "store") rows) ≡ false)
IsNoReport rows NoMemory = Unit {0}

-- `clap` rejects the words, or memory ran out.
abbrev pub IsRefused : App → List Text → WordsFault → Type 0
IsRefused app words (Refused error) = IsAmong (kind_of error) (fault_of app words)
IsRefused app words Missing = ⊥
IsRefused app words NoMemory = Unit {0}

-- Why these words choose nothing. Refused: an error in the words. Missing: there is no error, but a
-- value or a command is missing. NoMemory can come in place of any result.
abbrev pub IsFaultBy : Option Form → List Text → WordsFault → Type 0
IsFaultBy form words (Refused error) = IsAmong (kind_of error) (kinds_by form words)
IsFaultBy form words Missing = (kinds_by form words ≡ []) × (lacks form words ≡ true)
IsFaultBy form words NoMemory = Unit {0}

-- The errors in the words.
abbrev pub refusals : List Text → Kinds
refusals words = kinds_by (form_named words) words

-- Why the words choose no command.
abbrev pub IsFault : List Text → WordsFault → Type 0
IsFault words fault = IsFaultBy (form_named words) words fault

-- The command that the words choose, or the fault.
abbrev pub Chooses : Option Form → List Text → Result (Box Chosen Global) WordsFault → Type 0
Chooses form words result = MatchResult result
    (λ chosen. (kinds_by form words ≡ []) × IsChosen words chosen.value)
    (IsFaultBy form words)
