use Rattle.count_core.specs.Inside.{AreOuter, AreUnflaggedIn, lists}
use Rattle.count_core.proofs.unnamed.unnamed_in_each.Given as goal

abbrev pub invariant-loop-thing : goal.invariant-loop-thing
invariant-loop-thing l = record {
  unnamed : AreUnflaggedIn l.ledger l.flags l.thing (lists l.unnamed.items);
  outer : AreOuter l.ledger.museum (lists l.outer.items);
}
