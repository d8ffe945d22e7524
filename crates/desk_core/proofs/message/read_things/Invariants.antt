use Rattle.std.proofs.Common.{◌≡◌, ◌++◌, length}
use Rattle.desk_core.specs.Codes.{things_rejection}
use Rattle.desk_core.specs.LineTexts.{words}
use Rattle.desk_core.proofs.message.read_things.Given as goal

-- the words so far are things, and the first that is none is among the others
abbrev pub invariant-loop-word : goal.invariant-loop-word
invariant-loop-word l = record {
  read : words l.fn.text ≡ l.things.items ++ words l.rest;
  same : things_rejection l.setup l.forced (words l.fn.text)
      ≡ things_rejection l.setup l.forced (words l.rest);
}

abbrev pub decreases-loop-word : goal.decreases-loop-word
decreases-loop-word l = length l.rest
