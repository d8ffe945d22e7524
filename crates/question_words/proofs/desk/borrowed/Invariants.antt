use Rattle.std.proofs.Common.{◌≡◌, map, take}
use Rattle.std.specs.Prelude.{string_bytes}
use Rattle.command_words.specs.Words.{texts_of}
use Rattle.question_words.proofs.desk.borrowed.Given as goal

-- the words so far are borrowed
abbrev pub invariant-loop-text : goal.invariant-loop-text
invariant-loop-text l = texts_of l.words.items ≡ map string_bytes (take l.text-index l.texts)
