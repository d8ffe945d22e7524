use Rattle.std.proofs.Common.{◌≡◌, ◌++◌, drop}
use Rattle.clap.specs.Words.{found_of, rows_of}
use Rattle.command_words.specs.Needs.{without_value}
use Rattle.command_words.specs.Words.{texts_of}
use Rattle.command_words.proofs.needs.list_without_value.Given as goal

-- together with the missing arguments among the rest, the list is complete
abbrev pub invariant-loop-id : goal.invariant-loop-id
invariant-loop-id l =
    (texts_of l.without.items
    ++ without_value (rows_of (found_of l.fn.matches)) (texts_of (drop l.id-index l.fn.ids)))
    ≡ without_value (rows_of (found_of l.fn.matches)) (texts_of l.fn.ids)
