use Rattle.std.proofs.Common.{◌≡◌, drop}
use Rattle.clap.specs.Words.{app_of}
use Rattle.command_words.specs.Commands.{overview}
use Rattle.command_words.specs.Tables.{with_commands}
use Rattle.command_words.proofs.shapes.overview_command.Given as goal

-- the remaining commands complete it
abbrev pub invariant-loop-name : goal.invariant-loop-name
invariant-loop-name l = with_commands (app_of l.command) (drop l.name-index l.name-items) ≡ overview
