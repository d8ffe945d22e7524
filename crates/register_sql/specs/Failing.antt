-- Defines why a statement fails, and what a call leaves besides its effect.
use Rattle.std.specs.Prelude.{◌≡◌, ◌≢◌, Bool, true, false, Option, Some, Result, IfErr, IsTrue}
use Rattle.std.specs.Prelude.{OnOk}
use Rattle.sqlite.specs.State.{State, HasCleanDisk}
use Rattle.sqlite.specs.declared.error.Error.{Error}
use Rattle.sqlite.specs.declared.error.Error.TheVariants.{SqliteFailure, QueryReturnedNoRows}
use Rattle.sqlite.specs.declared.error.Error.TheVariants.{InvalidColumnIndex, InvalidColumnType}
use Rattle.sqlite.specs.declared.error.Error.TheVariants.{IntegralValueOutOfRange, Utf8Error}
use Rattle.sqlite.specs.declared.error.ErrorCode.TheVariants as code
use Rattle.sqlite_disk.specs.Disk.{MoreFaults}
use Rattle.register_store.specs.declared.store_fault.StoreFault.{StoreFault}
use Rattle.register_store.specs.declared.store_fault.StoreFault.TheVariants.{NoMemory, Store}
use Rattle.register_sql.specs.Posting.{Kept, Survived}
use Rattle.register_sql.specs.Queries.{IsSame}

-- An error of the disk: it failed, it is full, or the bytes it returned are damaged; or an earlier
-- such error closed the connection.
abbrev pub is_of_disk : Error → Bool
is_of_disk (SqliteFailure code.SystemIoFailure) = true
is_of_disk (SqliteFailure code.DatabaseCorrupt) = true
is_of_disk (SqliteFailure code.DiskFull) = true
is_of_disk (SqliteFailure code.Closed) = true
is_of_disk _ = false

-- An error that a statement can have: any but those of opening a file and of reading a column.
abbrev pub is_of_statement : Error → Bool
is_of_statement (SqliteFailure code.NotADatabase) = false
is_of_statement (SqliteFailure code.CannotOpen) = false
is_of_statement (SqliteFailure code.DatabaseBusy) = false
is_of_statement QueryReturnedNoRows = false
is_of_statement (InvalidColumnIndex at) = false
is_of_statement (InvalidColumnType at kind) = false
is_of_statement (IntegralValueOutOfRange at) = false
is_of_statement (Utf8Error at) = false
is_of_statement _ = true

-- The error is that of a failed statement. An error of the disk comes only if the disk failed or
-- refused a call meanwhile, or if the connection was closed before.
pub record IsExcused (old new : State) (e : Error) : Type 0 where
  pub named : IsTrue (is_of_statement e)
  pub disk : IsTrue (is_of_disk e) → IsTrue old.is_open → MoreFaults old.faults new.faults

-- An error of the call is excused, as long as the disk returns the bytes written to it.
abbrev pub Excused : {T : Type 0} → State → State → Result T Error → Type 0
Excused old new r = HasCleanDisk new → IfErr r (IsExcused old new)

-- What each step inside a transaction leaves, besides its change: it commits nothing, and a crash
-- after it leaves nothing new. Its error is excused.
pub record IsStep {T : Type 0} (old new : State) (r : Result T Error) : Type 0 where
  pub kept : Kept old new
  pub survives : Survived old new
  pub excused : Excused old new r

-- What each call that only reads the database leaves: no transaction begins, the database stays as
-- it was if the call succeeds, and a crash leaves nothing new. Its error is excused.
pub record IsReading {T : Type 0} (old new : State) (r : Result T Error) : Type 0 where
  pub between : old.in_transaction ≡ false → new.in_transaction ≡ false
  pub same : HasCleanDisk new → OnOk r (IsSame old new)
  pub survives : Survived old new
  pub excused : Excused old new r

-- The fault of a failed statement: NoMemory if memory ran out, otherwise Store.
pub record IsFaultOf (e : Error) (fault : StoreFault) : Type 0 where
  pub memory : e ≡ SqliteFailure code.OutOfMemory → fault ≡ NoMemory
  pub store : e ≢ SqliteFailure code.OutOfMemory → fault ≡ Store

-- A register that had not stopped, and has now, keeps an error, and the call returned the fault of
-- that error. On a clean disk the connection was open before, and the error is excused.
abbrev pub StopsFor : {T : Type 0} → State → State → Bool → Bool → Option Error
    → Result T StoreFault → Type 0
StopsFor old new was is failure r =
    was ≡ false → is ≡ true
    → (e : Error) × (failure ≡ Some e) × IfErr r (IsFaultOf e)
    × (HasCleanDisk new → IsTrue old.is_open × IsExcused old new e)
