use Rattle.std.proofs.Common.{◌≡◌, map, take}
use Rattle.std.specs.Prelude.{string_bytes}
use Rattle.std.specs.List.{filter}
use Rattle.reports.specs.Cells.{is_shown, plain_text, cell_of}
use Rattle.reports.proofs.line.word_texts.Given as goal

abbrev pub invariant-loop-word : goal.invariant-loop-word
invariant-loop-word l = map string_bytes l.texts.items
    ≡ map plain_text (filter is_shown (map cell_of (take l.word-index l.words)))
