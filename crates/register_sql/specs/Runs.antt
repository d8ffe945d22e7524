-- Defines how one run of the program leaves a store's two files for the next.
use Rattle.std.specs.Prelude.{◌≡◌, []}
use Rattle.sqlite.specs.Files.{HoldsDatabase, AreFoundIn, IsNothing, image_of}
use Rattle.sqlite.specs.Recovery.{Image}
use Rattle.sqlite.specs.Tree.{Trees}
use Rattle.sqlite.specs.WalFiles.{outcomes}
use Rattle.sqlite_disk.specs.declared.Disk.{Ghosts}
use Rattle.sqlite_disk.specs.declared.Files.{Files}
use Rattle.register_store.specs.Holdings.{Holding, Has}
use Rattle.register_store.specs.StoredRows.{Content}
use Rattle.register_sql.specs.Rows.{IsStored}
use Rattle.register_sql.specs.Stores.{no_rows}

-- The store may hold the content of this database, and no other.
pub record HasIts (store : Holding) (db : Trees) : Type 0 where
  pub all : (c : Content) → IsStored db c → store.holds c
  pub only : (c : Content) → store.holds c → IsStored db c

-- The store is the one that the files held when they were opened. If they held a database, it has
-- the rows of that database. Otherwise it has the rows of a database that the files can be read as.
-- If there was no database yet, it has no rows.
pub record IsFoundIn (image : Image) (store : Holding) : Type 0 where
  pub held : (db : Trees) → HoldsDatabase image db → HasIts store db
  pub read : (db : Trees) × AreFoundIn image db × HasIts store db
  pub new : IsNothing image → Has store (λ c. c ≡ no_rows)

-- Files like these hold a database with rows that the store may have, and no others.
abbrev pub HoldsRowsOf : Image → Holding → Type 0
HoldsRowsOf image store = ∥ ((db : Trees) × HoldsDatabase image db × HasIts store db) ∥₁

-- The same of the two files together, and of the database file without its log.
pub record HoldsAlone (image : Image) (store : Holding) : Type 0 where
  pub both : HoldsRowsOf image store
  pub alone : HoldsRowsOf (record image { log = [] }) store

-- The rows of the store are in the database file alone, as it reads now and after any crash.
pub record IsCopied {D : Type 0} (g : Ghosts D) (store : Holding) (files : Files D) : Type 0 where
  pub was_quiet : store.is_quiet
  pub seen : HoldsAlone (image_of g files) store
  pub left : (image : Image) → outcomes g files.log files.db image → HoldsAlone image store

-- Whatever a crash or an end of the program leaves of the two files holds a database with rows that
-- the store may have had.
pub record IsLeft {D : Type 0} (g : Ghosts D) (store : Holding) (files : Files D) : Type 0 where
  pub was_quiet : store.is_quiet
  pub left : (image : Image) → outcomes g files.log files.db image
      → ∥ ((db : Trees) × HoldsDatabase image db
      × ((c : Content) → IsStored db c → store.holds c)) ∥₁

-- Whatever the new store may hold, the old one may have held.
abbrev pub Lasts : Holding → Holding → Type 0
Lasts old new = (c : Content) → new.holds c → ∥ old.holds c ∥₁

-- The two stores may hold the same rows.
pub record AreAlike (old new : Holding) : Type 0 where
  pub none_lost : (c : Content) → old.holds c → new.holds c
  pub none_added : (c : Content) → new.holds c → old.holds c
