-- Defines how binding a store to a setup can end.
use Rattle.std.specs.Prelude.{◌≡◌, ◌≢◌, ◌⊎◌, ℕ, Bool, true, false, IsTrue}
use Rattle.std.specs.Bool.{Decides}
use Rattle.std.specs.List.Sorted.{IsPermutation}
use Rattle.nest_core.specs.Museum.{Museum}
use Rattle.sqlite.specs.Effect.{Database}
use Rattle.sqlite.specs.State.{State}
use Rattle.sqlite.specs.Tree.{Trees}
use Rattle.sqlite_catalog.specs.Listing.{IsSound}
use Rattle.register_store.specs.Registers.{is_new, bound_to, IsWhole, IsBindFault}
use Rattle.register_store.specs.StoredRows.{Content, AreSame, IsBoundTo, rows_of_setup}
use Rattle.register_store.specs.declared.store_fault.StoreFault.{StoreFault}
use Rattle.register_store.specs.declared.store_fault.StoreFault.TheVariants.{Store}
use Rattle.register_sql.specs.Posting.{IsReady}
use Rattle.register_sql.specs.Queries.{IsSame, AreApart}
use Rattle.register_sql.specs.Rows.{AreRows, IsStored}
use Rattle.register_sql.specs.Tables.{prefix, hub_schema, IsNoStore}

-- An open connection with no transaction.
pub record IsSettled (s : State) : Type 0 where
  pub is_open : IsTrue s.is_open
  pub settled : s.now ≡ s.committed

-- A new store, whole or partly created, whose rowids are not numbers that differ.
pub record IsUnfitNew (db : Database) : Type 0 where
  pub new : (c : Content) → IsStored db.trees c → is_new c.meta ≡ true
  pub unfit : (made : ℕ) × (db.schema ≡ prefix made) × ¬ AreApart made db.trees

-- A store of version 2 with this setup, which lacks a table or whose rowids are not numbers that
-- differ.
pub record IsUnfitOld (S : Museum) (db : Database) : Type 0 where
  pub whole : (c : Content) → IsStored db.trees c → IsWhole c.meta
  pub setup : (c : Content) → IsStored db.trees c → IsPermutation (rows_of_setup S) c.setup
  pub unfit : (db.schema ≢ hub_schema) ⊎ (¬ AreApart 6 db.trees)

-- A database that is rejected with Store although no statement fails.
abbrev pub IsUnfitFor : Museum → Database → Type 0
IsUnfitFor S db = IsNoStore db ⊎ (IsUnfitNew db ⊎ IsUnfitOld S db)

-- The store is new if it has no rows about itself. A database with other tables is never new.
abbrev pub IsNewness : Database → Bool → Type 0
IsNewness db new =
    (IsNoStore db × (new ≡ false))
    ⊎ ((c : Content) → IsStored db.trees c → Decides new (is_new c.meta ≡ true))

-- The store is rejected for this cause, and nothing is changed. Store comes only if it is unfit.
pub record IsRefused (S : Museum) (old new : State) (fault : StoreFault) : Type 0 where
  pub same : IsSame old new
  pub cause : (c : Content) → IsStored old.now.trees c → IsBindFault S c fault
  pub unfit : fault ≡ Store → IsUnfitFor S old.now

-- The content is that of the database after it was bound to the setup.
abbrev pub ComesBound : Museum → Trees → Content → Type 0
ComesBound S db d = (c : Content) × IsStored db c × AreSame (bound_to S c) d

-- The store is bound to the setup, with this depth limit.
pub record IsBoundAs (S : Museum) (depth : ℕ) (old new : State) : Type 0 where
  pub was_open : IsTrue old.is_open
  pub ready : IsReady new
  pub content : (d : Content) × AreRows new.now.trees d
  pub comes : (d : Content) → AreRows new.now.trees d → ComesBound S old.now.trees d
  pub bound : (d : Content) → AreRows new.now.trees d → IsBoundTo S depth d

-- A database that is bound to the setup.
pub record LeavesBound (S : Museum) (old : State) (db : Trees) : Type 0 where
  pub sound : IsSound hub_schema db
  pub content : (d : Content) × AreRows db d
  pub comes : (d : Content) → AreRows db d → ComesBound S old.now.trees d
