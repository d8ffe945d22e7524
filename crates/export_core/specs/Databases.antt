-- Defines the database that a script makes.
use Rattle.std.specs.Prelude.{ℕ, ℤ, List, Ok, Option}
use Rattle.export_core.specs.Script.{script_text}
use Rattle.posting_core.specs.Book.{Book}
use Rattle.sqlite.specs.Batch.{ExecutesAll}
use Rattle.sqlite.specs.Closing.{IsCopied}
use Rattle.sqlite.specs.Files.{over_files}
use Rattle.sqlite.specs.Held.{Held}
use Rattle.sqlite.specs.WalReads.{AreClean}
use Rattle.sqlite_disk.specs.declared.Disk.{Ghosts}
use Rattle.sqlite_disk.specs.declared.Files.{Files}
use Rattle.sqlite_store.specs.declared.store.FileStore.{FileStore}

-- All statements of the script ran on the database, and the database file alone has what they made.
pub record IsMadeBy {D : Type 0} {g : Ghosts D} (script : List ℕ) (before : Held (FileStore D g))
    (files : Files D) : Type 0 where
  pub after : Held (FileStore D g)
  pub ran : ExecutesAll over_files script before after (Ok tt)
  pub kept : IsCopied after files

-- The script of the record ran on the database, and the database file alone has what it made.
abbrev pub IsExported : {D : Type 0} (g : Ghosts D) → Book → Option ℤ → Held (FileStore D g)
    → Files D → Type 0
IsExported g B on before files =
    AreClean g files.log files.db → IsMadeBy (script_text B on) before files
