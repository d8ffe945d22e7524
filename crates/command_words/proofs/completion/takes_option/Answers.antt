use Rattle.std.proofs.Common.{◌∙◌, ap, ap₂, sym}
use Rattle.command_words.specs.Completion.{is_filled_in}
use Rattle.command_words.specs.Tables.{form_by}
use Rattle.command_words.proofs.Filling.{check_has_none, has_both, has_none, help_has_none}
use Rattle.command_words.proofs.Filling.{setup_has_no_setup, setup_has_store}
use Rattle.command_words.proofs.completion.takes_option.Goals as goal

pub returns-in-Explain : goal.returns-in-Explain
returns-in-Explain c =
    has_none c.args.option ∙ ap (λ n. is_filled_in c.args.option (form_by n)) (sym c.in-Explain.is)

pub returns-in-Help : goal.returns-in-Help
returns-in-Help c =
    help_has_none c.args.option
    ∙ ap (λ n. is_filled_in c.args.option (form_by n)) (sym c.in-Help.is)

pub returns-in-Check : goal.returns-in-Check
returns-in-Check c =
    check_has_none c.args.option
    ∙ ap (λ n. is_filled_in c.args.option (form_by n)) (sym c.in-Check.is)

pub returns-in-Setup-option : goal.returns-in-Setup-option
returns-in-Setup-option c =
    setup_has_no_setup
    ∙ ap₂ (λ o n. is_filled_in o (form_by n)) (sym c.in-Setup-option.is) (sym c.in-Setup.is)

pub returns-in-Store : goal.returns-in-Store
returns-in-Store c =
    setup_has_store
    ∙ ap₂ (λ o n. is_filled_in o (form_by n)) (sym c.in-Store.is) (sym c.in-Setup.is)

pub returns-in_default : goal.returns-in_default
returns-in_default c =
    has_both c.args.option c.args.name c.in_default.not-Explain c.in_default.not-Help
    c.in_default.not-Check c.in_default.not-Setup
