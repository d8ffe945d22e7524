-- Defines how a command judges the record of a store.
use Rattle.std.specs.Prelude.{◌≡◌}
use Rattle.hub_core.specs.Openings.{Opened}
use Rattle.hub_core.specs.StandsFor.{State}
use Rattle.nest_core.specs.Museum.{Museum}
use Rattle.posting_core.specs.Book.{Book}
use Rattle.register_store.specs.Holdings.{Holding}

-- A hub that was opened over the register `before` had this record, and left the register `after`.
pub record IsJudged {R : Type 0} (holding : R → Holding) (S : Museum) (before after : R) (L : Book)
    : Type 0 where
  pub hub : State R
  pub opened : Opened holding S before hub
  pub register : after ≡ hub.register
  pub book : L ≡ hub.book
