-- Defines the contents that a store may have before and after a call on its register, and how the
-- call changes them.
use Rattle.std.specs.Prelude.{◌≡◌, ◌⊎◌, true}
use Rattle.nest_core.specs.Museum.{Museum}
use Rattle.posting_core.specs.declared.entry.Changes.{Changes}
use Rattle.posting_core.specs.declared.entry.Entry.{Entry}
use Rattle.register_store.specs.declared.store_fault.StoreFault.{StoreFault}
use Rattle.register_store.specs.StoredRows.{Content, PostingRow, AreSame, IsPostingRow, with_posted}
use Rattle.register_store.specs.Registers.{is_failure, bound_to, IsBindFault}

-- `is_quiet`: nobody else writes to the store, and it returned the rows that were written. `holds`:
-- a content that it may have, in any order of rows. A store in memory has one; after a failed write
-- a store on disk may have one of two.
pub record Holding : Type 1 where
  pub is_quiet : Type 0
  pub holds : Content → Type 0

-- If the store is quiet, Q is true of every content that it may have.
abbrev pub Each : Holding → (Content → Type 0) → Type 0
Each store Q = store.is_quiet → (c : Content) → store.holds c → Q c

-- There is no content that it may have.
abbrev pub IsEmpty : Holding → Type 0
IsEmpty store = (c : Content) → store.holds c → ⊥

-- If the store is quiet, it has some content, and Q is true of every content that it may have.
pub record Has (store : Holding) (Q : Content → Type 0) : Type 0 where
  pub some : store.is_quiet → IsEmpty store → ⊥
  pub each : Each store Q

-- Every content that the store may have after the call comes by Change from one that it may have
-- had before. A store that is quiet afterwards was quiet before, and one that had a content still
-- has one.
pub record Comes (old new : Holding) (Change : Content → Content → Type 0) : Type 0 where
  pub quiet : new.is_quiet → old.is_quiet
  pub some : new.is_quiet → IsEmpty new → IsEmpty old
  pub from : new.is_quiet → (d : Content) → new.holds d → (c : Content) × old.holds c × Change c d

-- Entry e is posted, under the number that the changes have.
abbrev pub IsPosted : Entry → Changes → Content → Content → Type 0
IsPosted e changes c d =
    (row : PostingRow) × IsPostingRow changes.entry e row × AreSame (with_posted row e changes c) d

-- A new store gets the setup; an old one stays.
abbrev pub IsBound : Museum → Content → Content → Type 0
IsBound S c d = AreSame (bound_to S c) d

-- The store isn't bound, for this cause, and is as it was. After NoMemory or Store it may be bound
-- all the same.
abbrev pub IsNotBound : Museum → StoreFault → Content → Content → Type 0
IsNotBound S fault c d =
    IsBindFault S c fault × (AreSame c d ⊎ ((is_failure fault ≡ true) × IsBound S c d))
