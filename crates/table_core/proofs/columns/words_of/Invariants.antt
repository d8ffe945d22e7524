use Rattle.std.proofs.Common.{◌≡◌, map, take}
use Rattle.std.specs.Prelude.{string_bytes}
use Rattle.table_core.specs.Columns.{word_of}
use Rattle.table_core.proofs.columns.words_of.Given as goal

-- the words of the fields so far
abbrev pub invariant-loop-field : goal.invariant-loop-field
invariant-loop-field l =
    l.words.items ≡ map word_of (map string_bytes (take l.field-index l.heading))
