-- The commands of the table are among those of `clap`'s clauses.
use Rattle.std.proofs.Common.{◌≡◌, ◌<◌, ◌+◌, ◌∙◌, ◌∷◌, List, [], ap, drop, get_or, length, refl}
use Rattle.std.proofs.Common.{sym, true, ℕ}
use Rattle.std.proofs.lemmas.List.{at_drop_more}
use Rattle.clap.specs.Words.{App, app_of, is_simple_and_free, shape_of, with_rule, with_subcommand}
use Rattle.clap.specs.declared.builder.command.Command.{Command}
use Rattle.command_words.specs.Commands.{overview, program_alone, register_app, report_app}
use Rattle.command_words.specs.Tables.{app_by, form_by, rule_by, with_arguments, with_commands}
use Rattle.command_words.specs.declared.options.Argument.{Argument}
use Rattle.command_words.specs.declared.shapes.Name.{Name}
use Rattle.command_words.specs.declared.shapes.Name.TheVariants as name

is_simple : (n : Name) → is_simple_and_free (app_by n) ≡ true
unfolding app_by register_app report_app
is_simple name.Replay = refl
is_simple name.Serve = refl
is_simple name.Desk = refl
is_simple name.Lines = refl
is_simple name.Check = refl
is_simple name.Gap = refl
is_simple name.Resend = refl
is_simple name.Count = refl
is_simple name.Audit = refl
is_simple name.Overdue = refl
is_simple name.Away = refl
is_simple name.History = refl
is_simple name.Migrate = refl
is_simple name.Copy = refl
is_simple name.Seal = refl
is_simple name.Receipt = refl
is_simple name.Page = refl
is_simple name.Export = refl
is_simple name.Grow = refl
is_simple name.Setup = refl
is_simple name.Explain = refl
is_simple name.Stations = refl
is_simple name.Where = refl
is_simple name.Contents = refl
is_simple name.Loan = refl
is_simple name.At = refl
is_simple name.Posted = refl
is_simple name.Loans = refl
is_simple name.Dues = refl
is_simple name.Why = refl
is_simple name.Help = refl

is_plain : (n : Name) → (app_by n).top.is_plain ≡ true
unfolding app_by register_app report_app
is_plain name.Replay = refl
is_plain name.Serve = refl
is_plain name.Desk = refl
is_plain name.Lines = refl
is_plain name.Check = refl
is_plain name.Gap = refl
is_plain name.Resend = refl
is_plain name.Count = refl
is_plain name.Audit = refl
is_plain name.Overdue = refl
is_plain name.Away = refl
is_plain name.History = refl
is_plain name.Migrate = refl
is_plain name.Copy = refl
is_plain name.Seal = refl
is_plain name.Receipt = refl
is_plain name.Page = refl
is_plain name.Export = refl
is_plain name.Grow = refl
is_plain name.Setup = refl
is_plain name.Explain = refl
is_plain name.Stations = refl
is_plain name.Where = refl
is_plain name.Contents = refl
is_plain name.Loan = refl
is_plain name.At = refl
is_plain name.Posted = refl
is_plain name.Loans = refl
is_plain name.Dues = refl
is_plain name.Why = refl
is_plain name.Help = refl

pub simple_by : (n : Name) (app : App) → app ≡ app_by n → is_simple_and_free app ≡ true
simple_by n app e = ap is_simple_and_free e ∙ is_simple n

pub plain_by : (n : Name) (command : Command) → app_of command ≡ app_by n
    → (shape_of command).is_plain ≡ true
plain_by n command e = ap (λ (a : App). a.top.is_plain) e ∙ is_plain n

overview_is_simple : is_simple_and_free overview ≡ true
unfolding register_app report_app
overview_is_simple = refl

pub simple_overview : (app : App) → app ≡ overview → is_simple_and_free app ≡ true
simple_overview app e = ap is_simple_and_free e ∙ overview_is_simple

-- the commands of the overview, in its order
abbrev pub all : List Name
all = name.Replay ∷ name.Serve ∷ name.Desk ∷ name.Lines ∷ name.Check ∷ name.Gap ∷ name.Resend
    ∷ name.Count ∷ name.Audit ∷ name.Overdue ∷ name.Away ∷ name.History ∷ name.Migrate
    ∷ name.Copy ∷ name.Seal ∷ name.Receipt ∷ name.Page ∷ name.Export ∷ name.Grow ∷ name.Setup
    ∷ name.Explain ∷ name.Stations ∷ name.Where ∷ name.Contents ∷ name.Loan ∷ name.At ∷ name.Posted
    ∷ name.Loans ∷ name.Dues ∷ name.Why ∷ []

all_is_overview : with_commands program_alone all ≡ overview
unfolding app_by
all_is_overview = refl

pub whole : (app : App) → app ≡ program_alone → with_commands app all ≡ overview
whole app e = ap (λ a. with_commands a all) e ∙ all_is_overview

-- one more command is added, and one fewer is left
pub one_more : (above next : App) (names : List Name) (i : ℕ) (d : Name) → i < length names
    → with_commands above (drop i names) ≡ overview
    → next ≡ with_subcommand above (app_by (get_or names i d)).top
    → with_commands next (drop (i + 1) names) ≡ overview
one_more above next names i d below so_far next_is =
    ap (λ a. with_commands a (drop (i + 1) names)) next_is
    ∙ (sym (at_drop_more (with_commands above) names i d below) ∙ so_far)

-- one more argument is added, and one fewer is left
pub one_argument_more : (app next whole_app : App) (arguments : List Argument) (i : ℕ)
    (d : Argument) → i < length arguments
    → with_arguments app (drop i arguments) ≡ whole_app
    → next ≡ with_rule app (rule_by (get_or arguments i d))
    → with_arguments next (drop (i + 1) arguments) ≡ whole_app
one_argument_more app next whole_app arguments i d below so_far next_is =
    ap (λ a. with_arguments a (drop (i + 1) arguments)) next_is
    ∙ (sym (at_drop_more (with_arguments app) arguments i d below) ∙ so_far)

-- a command is the one that its needs belong to
pub app_is : (n : Name) → app_by n ≡ (form_by n).app
unfolding app_by form_by
app_is name.Replay = refl
app_is name.Serve = refl
app_is name.Desk = refl
app_is name.Lines = refl
app_is name.Check = refl
app_is name.Gap = refl
app_is name.Resend = refl
app_is name.Count = refl
app_is name.Audit = refl
app_is name.Overdue = refl
app_is name.Away = refl
app_is name.History = refl
app_is name.Migrate = refl
app_is name.Copy = refl
app_is name.Seal = refl
app_is name.Receipt = refl
app_is name.Page = refl
app_is name.Export = refl
app_is name.Grow = refl
app_is name.Setup = refl
app_is name.Explain = refl
app_is name.Stations = refl
app_is name.Where = refl
app_is name.Contents = refl
app_is name.Loan = refl
app_is name.At = refl
app_is name.Posted = refl
app_is name.Loans = refl
app_is name.Dues = refl
app_is name.Why = refl
app_is name.Help = refl
