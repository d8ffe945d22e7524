use Rattle.std.proofs.Common.{◌∙◌, ap}
use Rattle.clap.specs.Simple.{app_of_fields}
use Rattle.command_words.proofs.options.with_help.Goals as goal

pub returns : goal.returns
returns c =
    ap app_of_fields c.after_help.ensures
    ∙ (ap app_of_fields c.override_usage.ensures ∙ ap app_of_fields c.about.ensures)
