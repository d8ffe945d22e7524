-- How the steps inside a transaction go together, with the reasons for which they fail.
use Rattle.std.proofs.Common.{◌≡◌, ℕ, Bool, true, false, List, Ok, Err, Result, IfErr, IsTrue, refl}
use Rattle.std.proofs.Common.{◌≤◌, arith, inl, inr, ap}
use Rattle.sqlite.specs.Order.{Row}
use Rattle.sqlite.specs.State.{State, HasCleanDisk, Survives, KeepsCommit, ExecutesInside}
use Rattle.sqlite.specs.State.{IsUnchanged}
use Rattle.sqlite.specs.declared.error.Error.{Error}
use Rattle.sqlite.specs.declared.error.Error.TheVariants.{SqliteFailure}
use Rattle.sqlite.specs.declared.error.ErrorCode.TheVariants.{TransactionState}
use Rattle.register_sql.specs.Failing.{IsExcused, IsStep, IsReading}
use Rattle.register_sql.proofs.Ends.{kept_then, survives_on}
use Rattle.register_sql.proofs.Failures.{refused, inside, excused_after}
use Rattle.register_sql.proofs.Rising.{on_same}

-- why a statement inside a transaction fails
module _ (old new : State) (sql : List ℕ) (params : Row) where
  pub ran_excused : (r : Result ℕ Error)
      → (old.in_transaction ≡ false → r ≡ Err (SqliteFailure TransactionState))
      → (IsTrue old.in_transaction → ExecutesInside 0 sql params old new r)
      → IfErr r (IsExcused old new)
  ran_excused (Ok count) ended ran = tt
  ran_excused (Err e) ended ran = go old.in_transaction refl
    where
      go : (b : Bool) → old.in_transaction ≡ b → IsExcused old new e
      go true is = inside old new sql params e (ran is)
      go false is = let same : e ≡ SqliteFailure TransactionState = (let h = ended is in cc) in
          rw same (refused old new _ refl)

  failed_kept : (e : Error) → (old.in_transaction ≡ false → KeepsCommit old new)
      → (IsTrue old.in_transaction → ExecutesInside 0 sql params old new (Err e))
      → KeepsCommit old new
  failed_kept e ended ran = go old.in_transaction refl
    where
      unchanged : IsUnchanged old new → KeepsCommit old new
      unchanged h =
          record { was_open = λ _. h.0.was_open; committed = λ _. h.0.committed_is }

      from : ExecutesInside 0 sql params old new (Err e) → KeepsCommit old new
      from (inl (h, inl same)) = unchanged same
      from (inl (h, inr back)) =
          record { was_open = back.was_open; committed = λ up. (back.undone up).1 }
      from (inr h) = unchanged h.2

      go : (b : Bool) → old.in_transaction ≡ b → KeepsCommit old new
      go true is = from (ran is)
      go false is = ended is

  pub step_failed : (e : Error) → Survives old new (λ _. ⊥)
      → (old.in_transaction ≡ false
      → (e ≡ SqliteFailure TransactionState) × KeepsCommit old new)
      → (HasCleanDisk new → IsTrue old.in_transaction
      → ExecutesInside 0 sql params old new (Err e))
      → IsStep old new (let r : Result (Unit {0}) Error = Err e in r)
  step_failed e survives ended ran = record {
    kept = λ clean. failed_kept e (λ is. (ended is).1) (ran clean);
    survives = survives;
    excused = λ clean. ran_excused (Err e) (λ is. ap Err (ended is).0) (ran clean);
  }

-- an error of a later call
later : {T : Type 0} (a b c : State) (r : Result T Error) → Survives a b (λ _. ⊥)
    → b.faults ≤ c.faults → HasCleanDisk b → IfErr r (IsExcused b c) → IfErr r (IsExcused a c)
later a b c (Ok x) survives counts clean h = tt
later a b c (Err e) survives counts clean h = excused_after a b c _ e survives counts clean h

-- a step after others
pub step_on : {T : Type 0} (a b c : State) (r : Result T Error) → Survives a b (λ _. ⊥)
    → (HasCleanDisk b → KeepsCommit a b) → IsStep b c r → IsStep a c r
step_on a b c r survives kept step = record {
  kept = λ clean. kept_then a b c (kept (early clean)) (step.kept clean);
  survives = survives_on a b c survives step.survives;
  excused = λ clean. later a b c r survives step.survives.counts (early clean)
      (step.excused clean);
}
  where
    early : HasCleanDisk c → HasCleanDisk b
    early clean = omega (arith, step.survives.clean, clean)

pub step_then : {T U : Type 0} (a b c : State) (q : Result T Error) (r : Result U Error)
    → IsStep a b q → IsStep b c r → IsStep a c r
step_then a b c q r first = step_on a b c r first.survives first.kept

-- a reading that succeeded, with another answer
pub reading_as : {T U : Type 0} (a b : State) (x : T) (y : U)
    → IsReading a b (let q : Result T Error = Ok x in q)
    → IsReading a b (let r : Result U Error = Ok y in r)
reading_as a b x y reading = record {
  between = reading.between;
  same = reading.same;
  survives = reading.survives;
  excused = λ _. tt;
}

-- a reading after another that succeeded
pub reading_then : {T U : Type 0} (a b c : State) (x : T) (r : Result U Error)
    → IsReading a b (let q : Result T Error = Ok x in q) → IsReading b c r → IsReading a c r
reading_then a b c x r first second = record {
  between = λ none. second.between (first.between none);
  same = λ clean. on_same a b c r (first.same (early clean)) (second.same clean);
  survives = survives_on a b c first.survives second.survives;
  excused = λ clean. later a b c r first.survives second.survives.counts (early clean)
      (second.excused clean);
}
  where
    early : HasCleanDisk c → HasCleanDisk b
    early clean = omega (arith, second.survives.clean, clean)
