-- Defines which store has the record of a command, and what a command does to the store's files.
-- `image` describes the files when they are opened. `holding` is what a register's store may hold.
-- `l` and `l'` are the bytes that the log of a desk holds before and after.
use Rattle.std.specs.Prelude.{ℕ, ◌≡◌, List, Option, Some, None}
use Rattle.command_words.specs.Words.{text_of}
use Rattle.command_words.specs.declared.command.Chosen.{Chosen}
use Rattle.command_words.specs.declared.command.Chosen.TheVariants.{Replay, Serve, Migrate, Copy}
use Rattle.command_words.specs.declared.command.Chosen.TheVariants.{Grow, Setup, Report, Explain}
use Rattle.command_words.specs.declared.command.Chosen.TheVariants.{Cards, Desk, Help}
use Rattle.command_words.specs.declared.command.Chosen.TheVariants.{Lines, Check, Gap, Resend}
use Rattle.command_words.specs.declared.command.Chosen.TheVariants.{Audit, CheckReceipt, Receipt}
use Rattle.command_words.specs.declared.command.Chosen.TheVariants.{Export, Page, Seal}
use Rattle.hub_core.specs.declared.outcome.Outcome.{Outcome}
use Rattle.hub_program.specs.declared.ending.Ending.{Ending}
use Rattle.hub_program.specs.declared.ending.Ending.TheVariants.{Done, NotApplied, Printed}
use Rattle.hub_program.specs.declared.store.ClosedStore.{ClosedStore}
use Rattle.nest_core.specs.Museum.{Museum}
use Rattle.nest_core.specs.declared.growth.Growth.{Growth}
use Rattle.question_words.specs.Desk.{DeskAsks}
use Rattle.register_sql.specs.Migrating.{Migrates}
use Rattle.register_sql.specs.Runs.{IsCopied, IsFoundIn}
use Rattle.register_store.specs.Holdings.{Holding, Comes}
use Rattle.register_store.specs.StoredRows.{AreSame}
use Rattle.sqlite.specs.Recovery.{Image}
use Rattle.sqlite.specs.WalReads.{AreClean}
use Rattle.sqlite_disk.specs.declared.Disk.{Ghosts}
use Rattle.sqlite_disk.specs.declared.Files.{Files}
use Rattle.work_core.specs.Works.{Did}
use Rattle.work_core.specs.declared.work.Work.{Work}

-- The path of the store that the words name. Its record is the command's.
abbrev pub store_of : Chosen → Option (List ℕ)
store_of (Replay words) = text_of words.store
store_of (Serve setup store feeds) = text_of store
store_of (Desk words) = Some words.store.now
store_of Cards = None
store_of (Lines words) = text_of words.store
store_of (Check setup counts lines) = None
store_of (Gap words) = Some words.store.now
store_of (Resend words) = Some words.store.now
store_of (Audit words) = Some words.store.now
store_of (Migrate setup store) = Some store.now
store_of (Copy setup store to) = Some store.now
store_of (Seal words) = Some words.store.now
store_of (Receipt words) = Some words.store.now
store_of (CheckReceipt file entry upto) = None
store_of (Page words) = Some words.store.now
store_of (Export setup store to) = Some store.now
store_of (Grow setup store check) = Some store.now
store_of (Setup store) = Some store.now
store_of (Report report asked) = Some report.store.now
store_of (Explain name) = None
store_of (Help topic) = None

abbrev pub path_of : Option ClosedStore → Option (List ℕ)
path_of None = None
path_of (Some store) = Some store.path.now

-- The path of the store that was opened and closed again.
abbrev pub kept_in : Ending → Option (List ℕ)
kept_in (Done store) = path_of store
kept_in (NotApplied store) = path_of store
kept_in (Printed status) = None

-- The setup of a record: it lists what the setup file lists, and has grown as the store says.
abbrev pub grown_by : List Growth → Museum → Museum
grown_by growths S = record S { growths = growths }

-- The register has the record that the files held, and has changed none of its rows.
pub record IsRecordIn {R : Type 0} (holding : R → Holding) (image : Image) (register : R)
    : Type 0 where
  pub found : R
  pub is : (holding found).is_quiet → IsFoundIn image (holding found)
  pub same : Comes (holding found) (holding register) AreSame

-- The store is closed, and the database file alone has its rows.
pub record IsKeptAlone {D : Type 0} (g : Ghosts D) (store : Holding) : Type 0 where
  pub files : Files D
  pub copied : AreClean g files.log files.db → IsCopied g store files

-- The work was done on the register's record, and what it left of the record was kept.
pub record IsDoneAndKept {R D : Type 0} (holding : R → Holding) (g : Ghosts D) (S : Museum)
    (before : R) (work : Work) (had_seen has_seen : List Outcome → Type 0)
    (i i' o o' l l' : Option (List ℕ)) : Type 0 where
  pub after : R
  pub done : Did DeskAsks holding S before after work had_seen has_seen i i' o o' l l'
  pub kept : IsKeptAlone g (holding after)

-- The register's record was migrated, and kept.
pub record IsMigratedAndKept {R D : Type 0} (holding : R → Holding) (g : Ghosts D) (S : Museum)
    (before : R) : Type 0 where
  pub after : R
  pub migrated : Comes (holding before) (holding after) (Migrates S)
  pub kept : IsKeptAlone g (holding after)
