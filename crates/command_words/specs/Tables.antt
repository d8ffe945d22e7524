-- Defines the arguments and commands that `clap` gets from the program's two tables.
use Rattle.std.specs.Prelude.{◌∷◌, [], List}
use Rattle.clap.specs.Words.{App, Rule, Text, with_rule, with_subcommand}
use Rattle.command_words.specs.Commands.{Form, at, audit, away, check_files, contents, copy, count}
use Rattle.command_words.specs.Commands.{explain, export, file_rule, gap, lines, resend}
use Rattle.command_words.specs.Commands.{desk, dues, flag_rule, grow, loans, print_setup, why}
use Rattle.command_words.specs.Commands.{help, history, loan, migrate, option_rule, overdue, posted}
use Rattle.command_words.specs.Commands.{page, receipt, replay, seal, serve, stations, where_is}
use Rattle.command_words.specs.Commands.{word_rule, words_rule}
use Rattle.command_words.specs.declared.options.Argument.{Argument}
use Rattle.command_words.specs.declared.options.Kind.{Kind}
use Rattle.command_words.specs.declared.options.Kind.TheVariants.{File, Flag, Valued, Word, Words}
use Rattle.command_words.specs.declared.shapes.Name.{Name}
use Rattle.command_words.specs.declared.shapes.Name.TheVariants as name

-- An argument of this kind.
abbrev pub rule_as : Kind → Text → Rule
rule_as (File letter) id = file_rule id letter
rule_as Valued id = option_rule id
rule_as Flag id = flag_rule id
rule_as Word id = word_rule id
rule_as Words id = words_rule id

-- The argument of a row of the table.
abbrev pub rule_by : Argument → Rule
rule_by argument = rule_as argument.kind argument.id.now

-- The command with these arguments added.
abbrev pub with_arguments : App → List Argument → App
with_arguments app [] = app
with_arguments app (argument ∷ arguments) =
    with_arguments (with_rule app (rule_by argument)) arguments

-- The command of this name.
unfoldable pub app_by : Name → App
app_by name.Replay = replay.app
app_by name.Serve = serve.app
app_by name.Desk = desk.app
app_by name.Lines = lines.app
app_by name.Check = check_files.app
app_by name.Gap = gap.app
app_by name.Resend = resend.app
app_by name.Count = count.app
app_by name.Audit = audit.app
app_by name.Overdue = overdue.app
app_by name.Away = away.app
app_by name.History = history.app
app_by name.Migrate = migrate.app
app_by name.Copy = copy.app
app_by name.Seal = seal.app
app_by name.Receipt = receipt.app
app_by name.Page = page.app
app_by name.Export = export.app
app_by name.Grow = grow.app
app_by name.Setup = print_setup.app
app_by name.Explain = explain.app
app_by name.Stations = stations.app
app_by name.Where = where_is.app
app_by name.Contents = contents.app
app_by name.Loan = loan.app
app_by name.At = at.app
app_by name.Posted = posted.app
app_by name.Loans = loans.app
app_by name.Dues = dues.app
app_by name.Why = why.app
app_by name.Help = help.app

-- The command of this name, with the arguments that it needs.
unfoldable pub form_by : Name → Form
form_by name.Replay = replay
form_by name.Serve = serve
form_by name.Desk = desk
form_by name.Lines = lines
form_by name.Check = check_files
form_by name.Gap = gap
form_by name.Resend = resend
form_by name.Count = count
form_by name.Audit = audit
form_by name.Overdue = overdue
form_by name.Away = away
form_by name.History = history
form_by name.Migrate = migrate
form_by name.Copy = copy
form_by name.Seal = seal
form_by name.Receipt = receipt
form_by name.Page = page
form_by name.Export = export
form_by name.Grow = grow
form_by name.Setup = print_setup
form_by name.Explain = explain
form_by name.Stations = stations
form_by name.Where = where_is
form_by name.Contents = contents
form_by name.Loan = loan
form_by name.At = at
form_by name.Posted = posted
form_by name.Loans = loans
form_by name.Dues = dues
form_by name.Why = why
form_by name.Help = help

-- The program with these commands added.
abbrev pub with_commands : App → List Name → App
with_commands above [] = above
with_commands above (name ∷ names) =
    with_commands (with_subcommand above (app_by name).top) names
