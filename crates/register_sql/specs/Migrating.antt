-- Defines the migration of a store from version 1 to version 2: the stores that it accepts, the
-- change, its steps, and the faults.
use Rattle.std.specs.Prelude.{◌≡◌, ◌≢◌, ◌⊎◌, ℕ, true, false, List, [], ◌∷◌, length, map, drop, All}
use Rattle.std.specs.Prelude.{IsTrue}
use Rattle.std.specs.List.{AllByRecursion}
use Rattle.std.specs.List.Sorted.{IsPermutation}
use Rattle.std.specs.Option.{option_map_or}
use Rattle.nest_core.specs.Museum.{Museum}
use Rattle.posting_core.specs.declared.entry.Entry.{Entry}
use Rattle.sqlite.specs.Effect.{Database}
use Rattle.sqlite.specs.State.{State}
use Rattle.sqlite.specs.Tree.{Trees}
use Rattle.sqlite_catalog.specs.Listing.{IsSound}
use Rattle.register_store.specs.Registers.{is_new, is_failure, has_other_version}
use Rattle.register_store.specs.StoredRows.{Content, MetaRow, TermRow, AreSame, HasList}
use Rattle.register_store.specs.StoredRows.{rows_of_setup, rows_of_meta, put, is_same_loan, term_of}
use Rattle.register_store.specs.declared.store_fault.StoreFault.{StoreFault}
use Rattle.register_store.specs.declared.store_fault.StoreFault.TheVariants.{NoMemory, Store}
use Rattle.register_store.specs.declared.store_fault.StoreFault.TheVariants.{OtherSetup, Damaged}
use Rattle.register_store.specs.declared.store_fault.StoreFault.TheVariants.{OtherVersion}
use Rattle.register_sql.specs.Ages.{version_row, first_meta}
use Rattle.register_sql.specs.Early.{IsEarlyOf, IsFirstEarlyWrong}
use Rattle.register_sql.specs.Posting.{Within, IsWhole, IsReady, with_each, with_some_term}
use Rattle.register_sql.specs.Queries.{IsPart, IsSame, AreApart}
use Rattle.register_sql.specs.Rows.{HasPart, AreRows, IsStored, Apart, meta_cells}
use Rattle.register_sql.specs.Tables.{prefix, hub_schema, IsNoStore}

-- No row has this version.
abbrev pub Lacks : ℕ → List MetaRow → Type 0
Lacks version meta = AllByRecursion (λ row. row ≢ version_row version) meta

-- The last days that the entries set, each replacing the loan's previous one.
abbrev pub days_given : List Entry → List TermRow
days_given [] = []
days_given (e ∷ P) =
    option_map_or (λ t. put is_same_loan t (days_given P)) (term_of e) (days_given P)

-- The whole change: the rows about the store, and the last days of its loans. Everything else
-- stays.
abbrev pub migrated : List Entry → Content → Content
migrated P c = record c { meta = rows_of_meta 8; terms = days_given P }

-- A store of version 1 with this setup and these entries, all possible in version 1.
pub record IsOfFirst (S : Museum) (P : List Entry) (c : Content) : Type 0 where
  pub meta : IsPermutation first_meta c.meta
  pub setup : IsPermutation (rows_of_setup S) c.setup
  pub list : HasList P c
  pub known : All (IsEarlyOf (length S.stations)) P

-- A store of version 1 became one of version 2.
abbrev pub IsMigrated : Museum → Content → Content → Type 0
IsMigrated S c d = (P : List Entry) × IsOfFirst S P c × AreSame (migrated P c) d

-- The store was migrated, or it was of version 2 already and is as it was.
abbrev pub Migrates : Museum → Content → Content → Type 0
Migrates S c d = IsMigrated S c d ⊎ ((¬ Lacks 2 c.meta) × AreSame c d)

-- The store is new, or it has a version but neither 1 nor 2.
abbrev pub IsUnknown : List MetaRow → Type 0
IsUnknown meta =
    (is_new meta ≡ true) ⊎ ((has_other_version meta ≡ true) × Lacks 1 meta × Lacks 2 meta)

-- The store is old, has no unknown version, and its rows about itself are not those of version 1 or
-- 2.
pub record IsDamagedMeta (meta : List MetaRow) : Type 0 where
  pub old : is_new meta ≡ false
  pub known : has_other_version meta ≡ true → ¬ Lacks 1 meta
  pub lacks : Lacks 2 meta
  pub broken : ¬ IsPermutation first_meta meta

-- Why a store can't be migrated, in this order: OtherVersion; Damaged(0), if the rows about the
-- store are not whole; OtherSetup; Damaged, with the number of the first wrong entry.
abbrev pub IsMigrateFault : Museum → Content → StoreFault → Type 0
IsMigrateFault S c NoMemory = Unit {0}
IsMigrateFault S c Store = Unit {0}
IsMigrateFault S c OtherVersion = IsUnknown c.meta
IsMigrateFault S c OtherSetup =
    IsPermutation first_meta c.meta × ¬ IsPermutation (rows_of_setup S) c.setup
IsMigrateFault S c (Damaged at) =
    ((at ≡ 0) × IsDamagedMeta c.meta)
    ⊎ (IsPermutation first_meta c.meta × IsPermutation (rows_of_setup S) c.setup
    × IsFirstEarlyWrong (length S.stations) at c)

-- The store isn't migrated, for this cause, and is as it was. After NoMemory or Store it may be
-- migrated all the same.
abbrev pub IsNotMigrated : Museum → StoreFault → Content → Content → Type 0
IsNotMigrated S fault c d =
    IsMigrateFault S c fault × (AreSame c d ⊎ ((is_failure fault ≡ true) × IsMigrated S c d))

-- ---- the steps of the transaction

-- The tables other than `meta` have the same rows as before.
pub record SparesEntries (db next : Trees) : Type 0 where
  pub setup : next 2 ≡ db 2
  pub postings : next 3 ≡ db 3
  pub spots : next 5 ≡ db 5
  pub lines : next 7 ≡ db 7
  pub terms : next 9 ≡ db 9

-- The rows about the store were removed.
pub record ClearsMeta (db next : Trees) : Type 0 where
  pub meta : next 0 ≡ []
  pub others : SparesEntries db next

-- The rows about the store were replaced by these.
pub record RenewsMeta (rows : List MetaRow) (db next : Trees) : Type 0 where
  pub meta : IsPermutation (map meta_cells rows) (map (drop 1) (next 0))
  pub others : SparesEntries db next

-- The table of last days was created, empty, and the store has version 2.
pub record Raises (db next : Trees) : Type 0 where
  pub meta : IsPermutation (map meta_cells (rows_of_meta 8)) (map (drop 1) (next 0))
  pub setup : next 2 ≡ db 2
  pub postings : next 3 ≡ db 3
  pub spots : next 5 ≡ db 5
  pub lines : next 7 ≡ db 7
  pub terms : next 9 ≡ []

-- The content of version 2 with the last days that these entries set. They are listed oldest first.
abbrev pub lifted : List Entry → Content → Content
lifted entries c =
    with_each (λ e. with_some_term (term_of e)) entries
    (record c { meta = rows_of_meta 8; terms = [] })

-- The content of version 1 becomes `lifted`.
abbrev pub Lifts : List Entry → Trees → Trees → Type 0
Lifts entries db next = (c : Content) → HasPart 5 db c → AreRows next (lifted entries c)

-- The transaction goes on, over a whole store of version 2.
pub record IsLifting (entries : List Entry) (old new : State) : Type 0 where
  pub within : Within new
  pub stays : IsTrue old.is_open → IsTrue new.is_open
  pub rows : Lifts entries old.now.trees new.now.trees

-- The migration is committed.
pub record IsLifted (entries : List Entry) (old new : State) : Type 0 where
  pub is_open : IsTrue new.is_open
  pub whole : IsWhole new.now
  pub rows : Lifts entries old.now.trees new.now.trees
  pub committed : new.committed ≡ new.now

-- A database that was migrated.
pub record LeavesLifted (entries : List Entry) (old : State) (db : Trees) : Type 0 where
  pub sound : IsSound hub_schema db
  pub rows : Lifts entries old.now.trees db

-- ---- the whole

-- A database with the rows about a store of version 1, and with this setup.
pub record IsFirstOf (S : Museum) (db : Trees) : Type 0 where
  pub meta : (c : Content) → HasPart 5 db c → IsPermutation first_meta c.meta
  pub setup : (c : Content) → HasPart 5 db c → IsPermutation (rows_of_setup S) c.setup

-- The store can be migrated if its entries can be listed.
pub record IsRaisable (S : Museum) (s : State) : Type 0 where
  pub part : IsPart 5 s
  pub meta_apart : Apart (s.now.trees 0)
  pub apart : AreApart 5 s.now.trees
  pub first : IsFirstOf S s.now.trees

-- The content is that of the database after it was migrated.
abbrev pub ComesMigrated : Museum → Trees → Content → Type 0
ComesMigrated S db d = (c : Content) × IsStored db c × IsMigrated S c d

-- The store was migrated.
pub record IsMoved (S : Museum) (old new : State) : Type 0 where
  pub was_open : IsTrue old.is_open
  pub ready : IsReady new
  pub content : (d : Content) × AreRows new.now.trees d
  pub comes : (d : Content) → AreRows new.now.trees d → ComesMigrated S old.now.trees d

-- The store was of version 2 already, and is as it was.
pub record IsSecond (old new : State) : Type 0 where
  pub same : IsSame old new
  pub second : (c : Content) → IsStored old.now.trees c → ¬ Lacks 2 c.meta

-- The store is of version 2 now.
abbrev pub IsRaised : Museum → State → State → Type 0
IsRaised S old new = IsMoved S old new ⊎ IsSecond old new

-- Every database that a later opening may find has all six tables.
abbrev pub LeavesSix : State → Type 0
LeavesSix s = (db : Trees) → s.may_leave db → IsSound hub_schema db

-- Every database that a later opening may find has all six tables; or the store was of version 2,
-- and is as it was.
abbrev pub IsCompleted : State → State → Type 0
IsCompleted old new = LeavesSix new ⊎ IsSecond old new

-- In a store of version 1, the rowids of `meta`, the setup, the entries and the loan lines are
-- numbers that differ.
abbrev pub AreFirstApart : Trees → Type 0
AreFirstApart db = Apart (db 0) × AreApart 5 db

-- A database with the rows about a store of version 1 and this setup, but with other tables than
-- the five, or with rowids that don't differ.
pub record IsUnfitFirst (S : Museum) (db : Database) : Type 0 where
  pub meta : (c : Content) → IsStored db.trees c → IsPermutation first_meta c.meta
  pub setup : (c : Content) → IsStored db.trees c → IsPermutation (rows_of_setup S) c.setup
  pub unfit : (db.schema ≢ prefix 5) ⊎ (¬ AreFirstApart db.trees)

-- A database that is rejected with Store although no statement fails.
abbrev pub IsUnfit : Museum → Database → Type 0
IsUnfit S db = IsNoStore db ⊎ IsUnfitFirst S db

-- The store is rejected for this cause, and nothing is changed.
pub record IsLeft (S : Museum) (old new : State) (fault : StoreFault) : Type 0 where
  pub same : IsSame old new
  pub cause : (c : Content) → IsStored old.now.trees c → IsMigrateFault S c fault
  pub unfit : fault ≡ Store → IsUnfit S old.now

-- A database that was migrated.
pub record LeavesMoved (S : Museum) (old : State) (db : Trees) : Type 0 where
  pub sound : IsSound hub_schema db
  pub content : (d : Content) × AreRows db d
  pub comes : (d : Content) → AreRows db d → ComesMigrated S old.now.trees d
