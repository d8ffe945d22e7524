use Rattle.std.proofs.Common.{◌≡◌, ℕ, ◌<◌}
use Rattle.std.specs.List.{AllZip}
use Rattle.rtrb.specs.Ring.{SameConsumer}
use Rattle.serve_core.specs.Lanes.{received_at, Begins}
use Rattle.serve_core.specs.Sending.{IsStill, IsSentTo, sent_at}
use Rattle.serve_core.proofs.ending.settle_lanes.Given as goal

abbrev pub invariant-loop-i : goal.invariant-loop-i
invariant-loop-i l = record {
  pairs : AllZip IsSentTo l.found.items l.rings.items;
  found : AllZip IsStill l.fn.found.items l.found.items;
  rings : AllZip SameConsumer l.fn.rings.items l.rings.items;
  taken : (s : ℕ) → received_at l.rings.items s ≡ received_at l.fn.rings.items s;
  front : (s : ℕ) → s < l.i → Begins (received_at l.fn.rings.items s) (sent_at l.fn.found.items s);
}
