use Rattle.std.proofs.Common.{◌≡◌, vec_len}
use Rattle.std.specs.List.{AllZip}
use Rattle.serve_core.specs.Lanes.{IsFresh}
use Rattle.serve_core.proofs.intake.lanes.Given as goal

abbrev pub invariant-loop : goal.invariant-loop
invariant-loop l = record {
  lanes_count : vec_len l.lanes ≡ l.counter;
  rings_count : vec_len l.rings ≡ l.counter;
  fresh : AllZip IsFresh l.lanes.items l.rings.items;
}
