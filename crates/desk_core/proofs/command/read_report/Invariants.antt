use Rattle.std.proofs.Common.{◌≡◌, ◌++◌, ◌∷◌, length}
use Rattle.std.specs.List.{list_all}
use Rattle.std.specs.Str.{is_utf8}
use Rattle.desk_core.specs.LineTexts.{words}
use Rattle.desk_core.specs.Verbs.{verb_word}
use Rattle.desk_core.proofs.command.read_report.Given as goal

-- the words so far are texts, and the first that is none is among the others
abbrev pub invariant-loop-word : goal.invariant-loop-word
invariant-loop-word l = record {
  read : verb_word l.fn.verb ∷ words l.rest ≡ l.words ++ words l.left;
  same : list_all is_utf8 (words l.rest) ≡ list_all is_utf8 (words l.left);
}

abbrev pub decreases-loop-word : goal.decreases-loop-word
decreases-loop-word l = length l.left
