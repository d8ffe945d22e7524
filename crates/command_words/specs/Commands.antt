-- Defines the thirty-one commands: the arguments that `clap` knows of each, and the values that
-- each needs.
use Rattle.std.specs.Prelude.{◌∷◌, [], ℕ, Bool, List, None, Option, Some, codes, map, true, false}
use Rattle.clap.specs.Words.{App, Rule, Text, new_app, new_rule, with_rule}
use Rattle.clap.specs.declared.builder.action.ArgAction.TheVariants.{Set, SetTrue, Append}

-- An option with a value: --on DAY.
abbrev pub option_rule : Text → Rule
option_rule id = record (new_rule id) { long = Some id; value_names = 1; action = Some Set }

-- An option with a letter and a value: --setup PATH, -s PATH.
abbrev pub file_rule : Text → ℕ → Rule
file_rule id letter = record (option_rule id) { short = Some letter }

-- An option without a value: --csv.
abbrev pub flag_rule : Text → Rule
flag_rule id = record (new_rule id) { long = Some id; action = Some SetTrue }

-- A value by its position: LIST.
abbrev pub word_rule : Text → Rule
word_rule id = record (new_rule id) { value_names = 1; action = Some Set }

-- All values from a position on: FEEDS.
abbrev pub words_rule : Text → Rule
words_rule id = record (new_rule id) { value_names = 1; action = Some Append }

-- The command with an option for each of these arguments.
abbrev pub with_options : App → List Text → App
with_options app [] = app
with_options app (id ∷ ids) = with_options (with_rule app (option_rule id)) ids

-- A command with --setup and --store, whose letters are s (115) and d (100).
unfoldable pub register_app : Text → App
register_app name = with_rule (with_rule (new_app name) (file_rule (codes "setup") 115))
    (file_rule (codes "store") 100)

-- A command with --upto, --csv, --json and --table as well.
unfoldable pub report_app : App → App
report_app app = with_rule (with_rule (with_rule (with_rule app (option_rule (codes "upto")))
    (flag_rule (codes "csv"))) (flag_rule (codes "json"))) (flag_rule (codes "table"))

-- A command: its arguments, the values that it can't do without, the flag or the option with which
-- it needs none of them, and whether it is a report, which takes at most one of --csv, --json and
-- --table.
pub record Form : Type 0 where
  pub app : App
  pub needed : List Text
  pub waiver : Option Text
  pub other_use : Option Text
  pub is_report : Bool

-- A command that needs these values.
abbrev pub needing : App → List Text → Form
needing app ids = record {
  app = app;
  needed = ids;
  waiver = None;
  other_use = None;
  is_report = false;
}

-- A command that needs one value.
abbrev pub one_needed : App → Text → Form
one_needed app id = needing app (id ∷ [])

-- A command that needs a setup.
abbrev pub setup_needed : App → Form
setup_needed app = one_needed app (codes "setup")

-- A command that needs a setup and a store.
abbrev pub both_needed : App → Form
both_needed app = needing app (codes "setup" ∷ codes "store" ∷ [])

-- A command that needs a setup, a store and one more value.
abbrev pub all_needed : App → Text → Form
all_needed app id = needing app (codes "setup" ∷ codes "store" ∷ id ∷ [])

-- The command is a report.
abbrev pub report : Form → Form
report form = record form { is_report = true }

abbrev pub replay : Form
replay = setup_needed
    (with_rule (with_rule (with_rule (register_app (codes "replay")) (flag_rule (codes "progress")))
    (flag_rule (codes "strict"))) (flag_rule (codes "why")))

abbrev pub serve : Form
serve = setup_needed (with_rule (register_app (codes "serve")) (words_rule (codes "feeds")))

-- The desk's own station, the day, the files of the log and of the labels, the bell, and the flag
-- that prints the cards.
abbrev pub desk : Form
desk =
    record (all_needed
    (with_rule (with_rule (with_rule (with_rule (with_rule (with_rule (register_app (codes "desk"))
    (option_rule (codes "station"))) (option_rule (codes "day"))) (option_rule (codes "log")))
    (option_rule (codes "labels"))) (flag_rule (codes "bell"))) (flag_rule (codes "cards")))
    (codes "station")) { waiver = Some (codes "cards") }

-- The lines of a table: their station, the first number, what each row has in common, the order of
-- day and month, the file of the labels, the flag that makes notes faults, and the table.
abbrev pub lines : Form
lines =
    needing
    (with_rule (with_rule (with_options (register_app (codes "lines"))
    (codes "station" ∷ codes "first" ∷ codes "kind" ∷ codes "day" ∷ codes "place" ∷ codes "loan"
    ∷ codes "by" ∷ codes "dates" ∷ codes "labels" ∷ []))
    (flag_rule (codes "strict"))) (word_rule (codes "table")))
    (codes "setup" ∷ codes "station" ∷ codes "table" ∷ [])

-- The command `check`, which has a setup that it doesn't need, and no store.
abbrev pub check_files : Form
check_files = needing
    (with_options (with_rule (new_app (codes "check")) (file_rule (codes "setup") 115))
    (codes "counts" ∷ codes "lines" ∷ []))
    []

abbrev pub gap : Form
gap = needing
    (with_options (register_app (codes "gap")) (codes "station" ∷ codes "by" ∷ []))
    (codes "setup" ∷ codes "store" ∷ codes "station" ∷ codes "by" ∷ [])

abbrev pub resend : Form
resend = needing
    (with_rule (with_options (register_app (codes "resend")) (codes "station" ∷ []))
    (word_rule (codes "file")))
    (codes "setup" ∷ codes "store" ∷ codes "station" ∷ codes "file" ∷ [])

abbrev pub count : Form
count = report
    (all_needed
    (report_app (with_rule (with_rule (register_app (codes "count")) (word_rule (codes "list")))
    (flag_rule (codes "sealed"))))
    (codes "list"))

-- The moves that a count list asks for: their station, their day, the first number, the flag of
-- sealed containers, and the list.
abbrev pub audit : Form
audit =
    needing
    (with_rule (with_rule (with_options (register_app (codes "audit"))
    (codes "station" ∷ codes "day" ∷ codes "first" ∷ []))
    (flag_rule (codes "sealed"))) (word_rule (codes "list")))
    (codes "setup" ∷ codes "store" ∷ codes "station" ∷ codes "day" ∷ codes "list" ∷ [])

abbrev pub overdue : Form
overdue = report
    (all_needed
    (report_app (with_rule (register_app (codes "overdue")) (option_rule (codes "on"))))
    (codes "on"))

abbrev pub away : Form
away = report (both_needed (report_app (register_app (codes "away"))))

abbrev pub history : Form
history = report
    (all_needed
    (report_app (with_rule (with_rule (register_app (codes "history")) (word_rule (codes "code")))
    (flag_rule (codes "long"))))
    (codes "code"))

abbrev pub migrate : Form
migrate = both_needed (register_app (codes "migrate"))

abbrev pub copy : Form
copy = all_needed (with_rule (register_app (codes "copy")) (option_rule (codes "to"))) (codes "to")

-- The seal of the first entries, or the check of the seals in a file.
abbrev pub seal : Form
seal = both_needed
    (with_options (register_app (codes "seal")) (codes "upto" ∷ codes "check" ∷ []))

-- The receipt of an entry, or the check of a receipt in a file, which needs no record.
abbrev pub receipt : Form
receipt =
    record (all_needed
    (with_rule (with_options (register_app (codes "receipt")) (codes "upto" ∷ codes "check" ∷ []))
    (word_rule (codes "entry")))
    (codes "entry")) { other_use = Some (codes "check") }

-- The page of a record, with the loans marked that are overdue on a day.
abbrev pub page : Form
page = both_needed (with_options (register_app (codes "page")) (codes "on" ∷ codes "upto" ∷ []))

-- The record as a flat database, in a new file.
abbrev pub export : Form
export =
    all_needed (with_rule (register_app (codes "export")) (option_rule (codes "to"))) (codes "to")

abbrev pub grow : Form
grow = both_needed (with_rule (register_app (codes "grow")) (flag_rule (codes "check")))

-- The command `setup`, which has a store only.
abbrev pub print_setup : Form
print_setup = one_needed (with_rule (new_app (codes "setup")) (file_rule (codes "store") 100))
    (codes "store")

abbrev pub explain : Form
explain = one_needed (with_rule (new_app (codes "explain")) (word_rule (codes "name")))
    (codes "name")

-- A command that needs no value.
abbrev pub help : Form
help = needing (with_rule (new_app (codes "help")) (word_rule (codes "topic"))) []

abbrev pub stations : Form
stations = report (both_needed (report_app (register_app (codes "stations"))))

-- The command `where`.
abbrev pub where_is : Form
where_is = report
    (all_needed (report_app (with_rule (register_app (codes "where")) (word_rule (codes "code"))))
    (codes "code"))

abbrev pub contents : Form
contents = report
    (all_needed
    (report_app (with_rule (register_app (codes "contents")) (word_rule (codes "code"))))
    (codes "code"))

abbrev pub loan : Form
loan = report
    (all_needed (report_app (with_rule (register_app (codes "loan")) (word_rule (codes "code"))))
    (codes "code"))

abbrev pub at : Form
at = report
    (all_needed (report_app (with_rule (register_app (codes "at")) (word_rule (codes "place"))))
    (codes "place"))

abbrev pub posted : Form
posted = report
    (both_needed
    (report_app (with_rule (with_rule (with_rule (with_rule (with_rule (with_rule
    (register_app (codes "posted")) (option_rule (codes "from"))) (option_rule (codes "to")))
    (option_rule (codes "station"))) (option_rule (codes "thing"))) (option_rule (codes "loan")))
    (flag_rule (codes "refused")))))

abbrev pub loans : Form
loans = report
    (both_needed
    (report_app (with_rule (with_rule (with_rule (register_app (codes "loans"))
    (option_rule (codes "on"))) (option_rule (codes "by"))) (flag_rule (codes "open")))))

abbrev pub dues : Form
dues = report
    (all_needed
    (report_app (with_rule (register_app (codes "dues")) (option_rule (codes "by"))))
    (codes "by"))

abbrev pub why : Form
why = report
    (all_needed (report_app (with_rule (register_app (codes "why")) (word_rule (codes "entry"))))
    (codes "entry"))

-- The commands other than `help`.
abbrev pub listed : List Form
listed = replay ∷ serve ∷ desk ∷ lines ∷ check_files ∷ gap ∷ resend ∷ count ∷ audit ∷ overdue
    ∷ away ∷ history ∷ migrate ∷ copy ∷ seal ∷ receipt ∷ page ∷ export ∷ grow ∷ print_setup
    ∷ explain ∷ stations ∷ where_is ∷ contents ∷ loan ∷ at ∷ posted ∷ loans ∷ dues ∷ why ∷ []

abbrev pub commands : List Form
commands = help ∷ listed

-- The program without any command.
abbrev pub program_alone : App
program_alone =
    record (new_app (codes "pairsalder"))
    { top = record (new_app (codes "pairsalder")).top { has_version = true } }

-- The program with all its commands, for words that name none of them. `clap` adds its own `help`.
abbrev pub overview : App
overview = record program_alone {
  top = record program_alone.top { is_leaf = false };
  subs = map (λ form. form.app.top) listed;
}
