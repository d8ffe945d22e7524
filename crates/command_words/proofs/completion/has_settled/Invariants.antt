use Rattle.std.proofs.Common.{◌≡◌, drop}
use Rattle.command_words.specs.Completion.{is_settled}
use Rattle.command_words.specs.Words.{texts_of}
use Rattle.command_words.proofs.completion.has_settled.Given as goal

-- the remaining words decide
abbrev pub invariant-loop-word : goal.invariant-loop-word
invariant-loop-word l =
    is_settled l.fn.option (texts_of (drop l.word-index l.fn.words))
    ≡ is_settled l.fn.option (texts_of l.fn.words)
