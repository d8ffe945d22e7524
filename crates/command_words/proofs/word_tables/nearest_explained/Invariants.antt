use Rattle.command_words.specs.Distances.{IsFoundBy}
use Rattle.command_words.proofs.word_tables.nearest_explained.Given as goal

-- the best so far has its own distance
abbrev pub invariant-loop-subject : goal.invariant-loop-subject
invariant-loop-subject l = IsFoundBy l.text l.best
