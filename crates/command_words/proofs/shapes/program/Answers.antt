use Rattle.std.proofs.Common.{◌∙◌, ap, true}
use Rattle.clap.specs.Words.{App}
use Rattle.clap.specs.Simple.{app_of_fields}
use Rattle.command_words.proofs.shapes.program.Goals as goal

pub returns : goal.returns
returns c =
    c.with_help.ensures
    ∙ (ap app_of_fields c.version-command.ensures
    ∙ ap (λ (app : App). record app { top = record app.top { has_version = true } })
    c.new.ensures.app)
