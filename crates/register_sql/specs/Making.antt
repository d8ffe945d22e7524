-- Defines how the tables of a new store are created and filled.
use Rattle.std.specs.Prelude.{◌≡◌, ℕ, zero, suc, ◌+◌, pos, List, [], ◌∷◌, ◌++◌, map, drop, codes}
use Rattle.std.specs.Prelude.{Result, OnOk, IsTrue, true}
use Rattle.std.specs.List.Sorted.{IsPermutation}
use Rattle.sqlite.specs.Effect.{IsDatabase}
use Rattle.sqlite.specs.State.{State, HasCleanDisk}
use Rattle.sqlite.specs.Tree.{Trees}
use Rattle.sqlite.specs.declared.error.Error.{Error}
use Rattle.sqlite_catalog.specs.Listing.{IsSound}
use Rattle.register_store.specs.StoredRows.{SetupRow, MetaRow}
use Rattle.register_sql.specs.Rows.{setup_cells, meta_cells, had}
use Rattle.register_sql.specs.Tables.{prefix, hub_schema}

-- The statement that creates the table of this number.
abbrev pub create_of : ℕ → List ℕ
create_of zero = codes "CREATE TABLE meta (name TEXT PRIMARY KEY, val INTEGER NOT NULL) STRICT"
create_of (suc zero) = codes "CREATE TABLE setup (id INTEGER PRIMARY KEY, txt TEXT NOT NULL) STRICT"
create_of (suc (suc zero)) =
    codes "CREATE TABLE posting (id INTEGER PRIMARY KEY, station INTEGER NOT NULL, n INTEGER NOT NULL, body TEXT NOT NULL, verdict INTEGER NOT NULL, UNIQUE (station, n)) STRICT"
create_of (suc (suc (suc zero))) =
    codes "CREATE TABLE spot (thing INTEGER, k INTEGER, entry INTEGER NOT NULL, place INTEGER NOT NULL, day INTEGER NOT NULL, PRIMARY KEY (thing, k)) STRICT"
create_of (suc (suc (suc (suc zero)))) =
    codes "CREATE TABLE line (loan TEXT, object INTEGER, stage INTEGER NOT NULL, PRIMARY KEY (loan, object)) STRICT"
create_of _ = codes "CREATE TABLE term (loan TEXT PRIMARY KEY, day INTEGER NOT NULL) STRICT"

-- The rows of a setup with these texts, numbered from k.
abbrev pub setup_from : ℕ → List (List ℕ) → List SetupRow
setup_from k [] = []
setup_from k (text ∷ texts) = record { id = pos k; text = text } ∷ setup_from (k + 1) texts

-- The transaction goes on, over a store of the first `made` tables while the connection is open.
pub record IsMade (made : ℕ) (s : State) : Type 0 where
  pub schema : IsTrue s.is_open → s.now.schema ≡ prefix made
  pub sound : IsTrue s.is_open → IsDatabase s.now
  pub inside : s.in_transaction ≡ true

-- The transaction goes on, over the first `made` tables, and their rows were changed by Step.
pub record Goes (made : ℕ) (Step : Trees → Trees → Type 0) (old new : State) : Type 0 where
  pub is : IsMade made new
  pub stays : IsTrue old.is_open → IsTrue new.is_open
  pub rows : Step old.now.trees new.now.trees

-- Inside that transaction, as long as the disk returns the bytes written to it.
abbrev pub IsMaking : ℕ → State → Type 0
IsMaking made s = HasCleanDisk s → IsMade made s

-- A step that succeeds makes the change, as long as the disk returns the bytes written to it.
abbrev pub Went : {T : Type 0} → State → State → Result T Error → ℕ → (Trees → Trees → Type 0)
    → Type 0
Went old new r made Step = HasCleanDisk new → OnOk r (Goes made Step old new)

-- All tables have the same rows as before, and new ones are empty.
pub record Grown (made more : ℕ) (db next : Trees) : Type 0 where
  pub meta : had 1 more (next 0) ≡ had 1 made (db 0)
  pub setup : had 2 more (next 2) ≡ had 2 made (db 2)
  pub postings : had 3 more (next 3) ≡ had 3 made (db 3)
  pub spots : had 4 more (next 5) ≡ had 4 made (db 5)
  pub lines : had 5 more (next 7) ≡ had 5 made (db 7)
  pub terms : had 6 more (next 9) ≡ had 6 made (db 9)

-- The tables of entries, spots, lines and last days have the same rows as before.
pub record Spares (db next : Trees) : Type 0 where
  pub postings : next 3 ≡ db 3
  pub spots : next 5 ≡ db 5
  pub lines : next 7 ≡ db 7
  pub terms : next 9 ≡ db 9

-- The rows of the setup were removed.
pub record ClearsSetup (db next : Trees) : Type 0 where
  pub meta : next 0 ≡ db 0
  pub setup : next 2 ≡ []
  pub others : Spares db next

-- These rows were added to the setup.
pub record AddsSetup (rows : List SetupRow) (db next : Trees) : Type 0 where
  pub meta : next 0 ≡ db 0
  pub setup : IsPermutation (map setup_cells rows ++ db 2) (next 2)
  pub others : Spares db next

-- These rows replaced the setup.
pub record ReplacesSetup (rows : List SetupRow) (db next : Trees) : Type 0 where
  pub meta : next 0 ≡ db 0
  pub setup : IsPermutation (map setup_cells rows) (next 2)
  pub others : Spares db next

-- These rows about the store were added.
pub record AddsMeta (rows : List MetaRow) (db next : Trees) : Type 0 where
  pub meta : IsPermutation (map meta_cells rows ++ map (drop 1) (db 0)) (map (drop 1) (next 0))
  pub setup : next 2 ≡ db 2
  pub others : Spares db next

-- The setup was replaced, and rows about the store were added.
pub record Fills (setup : List SetupRow) (metas : List MetaRow) (db next : Trees) : Type 0 where
  pub meta : IsPermutation (map meta_cells metas ++ map (drop 1) (db 0)) (map (drop 1) (next 0))
  pub setup_is : IsPermutation (map setup_cells setup) (next 2)
  pub others : Spares db next

-- A store of the first `made` tables was completed to all six, with this setup, and with these rows
-- about the store added. Everything else is as before.
pub record MakesWhole (made : ℕ) (setup : List SetupRow) (metas : List MetaRow)
    (db next : Trees) : Type 0 where
  pub meta : IsPermutation (map meta_cells metas ++ map (drop 1) (had 1 made (db 0)))
      (map (drop 1) (next 0))
  pub setup_is : IsPermutation (map setup_cells setup) (next 2)
  pub postings : next 3 ≡ had 3 made (db 3)
  pub spots : next 5 ≡ had 4 made (db 5)
  pub lines : next 7 ≡ had 5 made (db 7)
  pub terms : next 9 ≡ had 6 made (db 9)

-- Inside the loop that adds the setup: of the rows `all`, the rows `left` are still to be added.
pub record SoFarSetup (old now : State) (all left : List SetupRow) : Type 0 where
  pub is : IsMade 6 now
  pub stays : IsTrue old.is_open → IsTrue now.is_open
  pub rows : (end : Trees) → AddsSetup left now.now.trees end → AddsSetup all old.now.trees end

-- The store was completed, and that is committed.
pub record IsMadeWhole (made : ℕ) (setup : List SetupRow) (metas : List MetaRow)
    (old new : State) : Type 0 where
  pub is_open : IsTrue new.is_open
  pub schema : new.now.schema ≡ hub_schema
  pub sound : IsDatabase new.now
  pub rows : MakesWhole made setup metas old.now.trees new.now.trees
  pub committed : new.committed ≡ new.now

-- A database that was completed.
pub record LeavesMade (made : ℕ) (setup : List SetupRow) (metas : List MetaRow) (old : State)
    (db : Trees) : Type 0 where
  pub sound : IsSound hub_schema db
  pub rows : MakesWhole made setup metas old.now.trees db
