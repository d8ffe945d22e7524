use Rattle.std.proofs.Common.{◌≡◌, ◌≤◌, ◌-◌, List, length, true, false}
use Rattle.posting_core.specs.declared.message.Message.{Message}
use Rattle.posting_core.specs.Messages.{is_sign_off}
use Rattle.station_core.specs.Series.{series_at}
use Rattle.station_core.specs.Runs.{Arrived}
use Rattle.station_core.specs.Progress.{IsPosting}
use Rattle.hub_core.specs.StandsFor.{InStep, HasStore}
use Rattle.hub_core.proofs.PostLemmas.{Caught}
use Rattle.hub_core.proofs.hub.posting.post_due.Given as goal

abbrev pub invariant-loop-n : goal.invariant-loop-n
invariant-loop-n g l = record {
  museum : l.ledger.museum ≡ l.fn.ledger.museum;
  depth : l.ledger.depth ≡ l.fn.ledger.depth;
  longer : length l.fn.ledger.posted ≤ length l.ledger.posted;
  stations : length l.sequences ≡ length l.fn.sequences;
  unsigned : (series_at l.sequences l.station).signed ≡ false;
  in_step : InStep l.sequences l.ledger.museum l.ledger.posted;
  bound : g.R.Register.is_bound l.register ≡ true;
  count : g.R.Register.refusals l.register ≡ g.R.Register.refusals l.fn.register;
  stored : HasStore (g.R.Register.holding l.fn.register) l.fn.ledger
      → HasStore (g.R.Register.holding l.register) l.ledger;
  caught : (taken : List (Arrived Message)) → IsPosting is_sign_off taken l.station l.fn.sequences →
      Caught l.fn.ledger.museum l.fn.ledger.depth taken l.station
      (series_at l.fn.sequences l.station).posted l.fn.ledger.posted l.sequences
      l.ledger.posted;
}

abbrev pub decreases-loop-n : goal.decreases-loop-n
decreases-loop-n g l = 1000000 - (series_at l.sequences l.station).posted
