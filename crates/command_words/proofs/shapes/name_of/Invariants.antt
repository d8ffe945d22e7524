use Rattle.std.proofs.Common.{◌≡◌, drop}
use Rattle.command_words.specs.Completion.{form_called}
use Rattle.command_words.proofs.Lookup.{form_among}
use Rattle.command_words.proofs.shapes.name_of.Given as goal

-- if the word names a command, it is one of the remaining ones
abbrev pub invariant-loop-name : goal.invariant-loop-name
invariant-loop-name l =
    form_among l.fn.word (drop l.name-index l.name-items) ≡ form_called l.fn.word
