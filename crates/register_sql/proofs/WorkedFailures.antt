-- Why statements fail, worked on examples.
use Rattle.std.proofs.Common.{◌≡◌, true, false, refl, arith}
use Rattle.sqlite.specs.State.{State}
use Rattle.sqlite.specs.declared.error.Error.TheVariants.{SqliteFailure, QueryReturnedNoRows}
use Rattle.sqlite.specs.declared.error.ErrorCode.TheVariants.{DiskFull, OutOfMemory, DatabaseBusy}
use Rattle.sqlite.specs.declared.error.ErrorCode.TheVariants.{ConstraintViolation, Closed}
use Rattle.sqlite_schema.specs.declared.schema.Constraint.TheVariants.{Unique}
use Rattle.register_sql.specs.Failing.{is_of_disk, is_of_statement, IsExcused}

-- ---- the errors

a_full_disk_is_of_the_disk : is_of_disk (SqliteFailure DiskFull) ≡ true
a_full_disk_is_of_the_disk = refl

a_closed_connection_is_of_the_disk : is_of_disk (SqliteFailure Closed) ≡ true
a_closed_connection_is_of_the_disk = refl

no_memory_is_not_of_the_disk : is_of_disk (SqliteFailure OutOfMemory) ≡ false
no_memory_is_not_of_the_disk = refl

two_equal_keys_are_of_a_statement : is_of_statement (SqliteFailure
    (ConstraintViolation Unique)) ≡ true
two_equal_keys_are_of_a_statement = refl

a_locked_file_is_of_no_statement : is_of_statement (SqliteFailure DatabaseBusy) ≡ false
a_locked_file_is_of_no_statement = refl

-- ---- the disk had failed 3 times before the statement

module _ (old new : State) (up : old.is_open ≡ true) (before : old.faults ≡ 3) where
  full_after_a_fault : new.faults ≡ 4 → IsExcused old new (SqliteFailure DiskFull)
  full_after_a_fault after = record { named = refl; disk = λ _ _. omega (arith, before, after) }

  full_without_a_fault : new.faults ≡ 3 → ¬ IsExcused old new (SqliteFailure DiskFull)
  full_without_a_fault after h = let more = h.disk refl up in omega (arith, before, after, more)

  no_memory_without_a_fault : IsExcused old new (SqliteFailure OutOfMemory)
  no_memory_without_a_fault = record {
    named = refl;
    disk = λ it _. absurd (let w : false ≡ true = it in cc);
  }

  no_rows_is_no_reason : ¬ IsExcused old new QueryReturnedNoRows
  no_rows_is_no_reason h = let w : false ≡ true = h.named in absurd cc
