use Rattle.std.proofs.Common.{◌≡◌, drop}
use Rattle.clap.specs.Words.{app_of}
use Rattle.command_words.specs.Tables.{app_by, with_arguments}
use Rattle.command_words.proofs.shapes.command_of.Given as goal

-- the remaining arguments complete it
abbrev pub invariant-loop-argument : goal.invariant-loop-argument
invariant-loop-argument l =
    with_arguments (app_of l.command) (drop l.argument-index l.argument-items) ≡ app_by l.fn.name
