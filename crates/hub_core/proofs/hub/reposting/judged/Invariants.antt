use Rattle.std.proofs.Common.{◌≡◌, ◌++◌, length}
use Rattle.std.specs.Prelude.{map, reverse}
use Rattle.posting_core.specs.Lawful.{IsLawful}
use Rattle.station_core.specs.Series.{opened}
use Rattle.hub_core.specs.StandsFor.{InStep}
use Rattle.hub_core.proofs.hub.reposting.judged.Given as goal

abbrev pub invariant-loop-entry : goal.invariant-loop-entry
invariant-loop-entry l = record {
  museum : l.ledger.museum ≡ l.fn.ledger.museum;
  depth : l.ledger.depth ≡ l.fn.ledger.depth;
  list : reverse l.fn.entries.items ≡ l.left.items ++ l.ledger.posted;
  lawful : IsLawful l.ledger.museum l.ledger.depth l.ledger.posted;
  in_step : InStep (map opened l.starts.items) l.ledger.museum l.ledger.posted;
}

abbrev pub decreases-loop-entry : goal.decreases-loop-entry
decreases-loop-entry l = length l.left.items
