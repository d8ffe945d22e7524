use Rattle.std.proofs.Common.{◌≡◌, length, take, map}
use Rattle.std.specs.List.{range_with_len}
use Rattle.count_core.specs.Counts.{named, answer_at}
use Rattle.count_core.specs.Marks.{AreNames}
use Rattle.count_core.proofs.marks.marked.Given as goal

abbrev pub invariant-loop-i : goal.invariant-loop-i
invariant-loop-i l = record {
  done : l.done.items ≡ map (answer_at l.ledger l.rows) (range_with_len 0 l.i);
  flags : AreNames (named l.ledger.museum) (length l.ledger.museum.things) (take l.i l.rows)
      l.flags.items;
}
