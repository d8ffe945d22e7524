-- Defines the effect of a call on a hub that takes arrivals and writes a reply.
use Rattle.std.specs.Prelude.{ℕ, ◌≡◌, ◌++◌, false, List, Result, OnOk, OnErr}
use Rattle.posting_core.specs.declared.entry.Entry.{Entry}
use Rattle.register_store.specs.Holdings.{Holding}
use Rattle.hub_core.specs.declared.hub.answer.Arrival.{Arrival}
use Rattle.hub_core.specs.declared.hub.answer.HubFault.{HubFault}
use Rattle.hub_core.specs.Faults.{CountsStore}
use Rattle.hub_core.specs.StandsFor.{State, StandsFor, TakesSome}

-- For every list of arrivals that the hub stood for, the reply `said` is appended to the text and
-- the hub stands for the list with `sent` added. After a fault it has taken some of `sent`, or was
-- stopped at one. Without a fault it isn't down.
pub record Serves {R T : Type 0} (holding : R → Holding) (refusals : R → ℕ) (old new : State R)
    (before text : List ℕ) (said : List Entry → List Arrival → List ℕ) (sent : List Arrival)
    (result : Result T HubFault) : Type 0 where
  pub reply : OnOk result
      ((O : List Entry) (A : List Arrival) → StandsFor holding old O A
      → (text ≡ before ++ said O A) × StandsFor holding new O (A ++ sent))
  pub fault : OnErr result
      ((O : List Entry) (A : List Arrival) → StandsFor holding old O A
      → TakesSome holding new O A sent)
  pub up : OnOk result (new.down ≡ false)
  pub count : CountsStore (refusals old.register) (refusals new.register) result
  pub museum : new.book.museum ≡ old.book.museum
  pub depth : new.book.depth ≡ old.book.depth
