-- Defines how a register's faults become those of a hub and of a replay, and that each Store fault
-- is counted.
use Rattle.std.specs.Prelude.{ℕ, ◌≡◌, ◌+◌, ◌-◌, ◌^◌, min, Result, Ok, Err}
use Rattle.register_store.specs.declared.store_fault.StoreFault.{StoreFault}
use Rattle.register_store.specs.declared.store_fault.StoreFault.TheVariants as store
use Rattle.hub_core.specs.declared.replay_fault.ReplayFault.{ReplayFault}
use Rattle.hub_core.specs.declared.replay_fault.ReplayFault.TheVariants as replay
use Rattle.hub_core.specs.declared.hub.answer.HubFault.{HubFault}
use Rattle.hub_core.specs.declared.hub.answer.HubFault.TheVariants.{NoMemory, Store, Down}

-- A register's fault as a hub's: NoMemory, or Store for all others.
abbrev pub hub_fault : StoreFault → HubFault
hub_fault store.NoMemory = NoMemory
hub_fault store.Store = Store
hub_fault store.OtherSetup = Store
hub_fault (store.Damaged at) = Store
hub_fault store.OtherVersion = Store

-- Store adds one to the register's count of refusals, up to 2^64 - 1. Any other result leaves the
-- count as it was.
abbrev pub CountsStore : {T : Type 0} → ℕ → ℕ → Result T HubFault → Type 0
CountsStore old new (Ok x) = new ≡ old
CountsStore old new (Err NoMemory) = new ≡ old
CountsStore old new (Err Store) = new ≡ min (old + 1) (2 ^ 64 - 1)
CountsStore old new (Err Down) = new ≡ old

-- A hub's fault as a replay's. The hub of a replay isn't down, so Down never comes.
abbrev pub replay_fault : HubFault → ReplayFault
replay_fault NoMemory = replay.NoMemory
replay_fault Store = replay.Store
replay_fault Down = replay.NoMemory

-- The same for the faults of a replay.
abbrev pub CountsReplay : {T : Type 0} → ℕ → ℕ → Result T ReplayFault → Type 0
CountsReplay old new (Ok x) = new ≡ old
CountsReplay old new (Err replay.NoMemory) = new ≡ old
CountsReplay old new (Err replay.Store) = new ≡ min (old + 1) (2 ^ 64 - 1)
CountsReplay old new (Err replay.ReadFailed) = new ≡ old
CountsReplay old new (Err replay.WriteFailed) = new ≡ old
