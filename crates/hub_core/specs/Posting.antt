-- Defines how posting changes a ledger and its store together. Each clause about the store assumes
-- that it had the ledger's rows before.
use Rattle.std.specs.Prelude.{ℕ, ◌≡◌, ◌-◌, List}
use Rattle.posting_core.specs.declared.message.Message.{Message}
use Rattle.posting_core.specs.Messages.{is_sign_off}
use Rattle.posting_core.specs.Book.{Book}
use Rattle.station_core.specs.Series.{Series, series_at}
use Rattle.station_core.specs.Runs.{Arrived, due, ready}
use Rattle.station_core.specs.Progress.{IsPosting}
use Rattle.register_store.specs.Holdings.{Holding}
use Rattle.hub_core.specs.Points.{post}
use Rattle.hub_core.specs.StandsFor.{InStep, Done, HasStore, HasSomeStore, HasEither, Stopped}

-- The next message is posted with its verdict, in the ledger and in the store.
pub record Posts (old new : Holding) (before after : Book) (next : Arrived Message) : Type 0 where
  pub ledger : after ≡ record before { posted = post before.museum before.depth before.posted next }
  pub stored : HasStore old before → HasStore new after

-- The next message isn't posted in the ledger. The store may have it, and has a lawful list in any
-- case.
pub record LeavesUnposted (old new : Holding) (before after : Book)
    (next : Arrived Message) : Type 0 where
  pub ledger : after ≡ before
  pub left : HasStore old before → HasEither new before.museum before.depth before.posted next
  pub lawful : HasStore old before → HasSomeStore new after

-- All due messages of station s are posted.
pub record PostsDue (old new : Holding) (s : ℕ) (sequences sequences' : List (Series Message))
    (before after : Book) : Type 0 where
  pub in_step : InStep sequences' after.museum after.posted
  pub done : (taken : List (Arrived Message)) → IsPosting is_sign_off taken s sequences
      → Done before.museum before.depth taken s
      (series_at sequences s).posted before.posted sequences' after.posted
  pub stored : HasStore old before → HasStore new after

-- A fault stopped the posting of the due messages of station s.
pub record StopsDue (old new : Holding) (s : ℕ) (sequences : List (Series Message))
    (before after : Book) : Type 0 where
  pub stopped : (taken : List (Arrived Message)) → IsPosting is_sign_off taken s sequences
      → HasStore old before → Stopped new before.museum before.depth before.posted
      (due taken s (series_at sequences s).posted
      (ready is_sign_off taken s - (series_at sequences s).posted)) after.posted
  pub lawful : HasStore old before → HasSomeStore new after
