-- Why a call of a connection fails, and what that says of the calls around it.
use Rattle.std.proofs.Common.{◌≡◌, ◌⊎◌, inl, inr, ℕ, ◌≤◌, Bool, true, false, ◌&&◌, not, List}
use Rattle.std.proofs.Common.{Option, Some, None, Ok, Err, Result, IsTrue, refl, sym, ap, arith}
use Rattle.std.proofs.Common.{◌∙◌, IfErr}
use Rattle.sqlite_disk.specs.Disk.{MoreFaults}
use Rattle.sqlite_trees.specs.declared.error.StoreError.{StoreError}
use Rattle.sqlite_trees.specs.declared.error.StoreError.TheVariants.{OutOfMemory, Io, Corrupt, Full}
use Rattle.sqlite_trees.specs.declared.error.StoreError.TheVariants.{Broken, Unstorable}
use Rattle.sqlite_trees.specs.Tree.{Trees}
use Rattle.sqlite_value.specs.Order.{Row}
use Rattle.sqlite_schema.specs.declared.command.Returning.{Returning}
use Rattle.sqlite_schema.specs.declared.command.Command.{Command}
use Rattle.sqlite.specs.declared.error.Error.{Error}
use Rattle.sqlite.specs.Effect.{Database}
use Rattle.sqlite.specs.State.{State, Fails, HasCause, store_error, IsNotRun, IsNoStatement}
use Rattle.sqlite.specs.State.{RunsCommand, IsMisplaced, ExecutesIn, ExecutesInside, shows_rows}
use Rattle.sqlite.specs.State.{FailsToQuery, FailsToShow, HasCleanDisk, Survives, mode_of}
use Rattle.sqlite.specs.Effect.{RefusesToRead}
use Rattle.sqlite_resolve.specs.declared.compiled.Compiled.{Compiled}
use Rattle.sqlite_schema.specs.declared.command.Command.TheVariants.{Select, Rows}
use Rattle.register_sql.specs.Failing.{is_of_disk, is_of_statement, IsExcused}
use Rattle.register_sql.proofs.Refusals.{is_refusal, mildly, either, refuses_query}

pub refused : (old new : State) (e : Error) → is_refusal e ≡ true → IsExcused old new e
refused old new e is = go (is_of_statement e) (is_of_disk e) refl refl is
  where
    go : (s d : Bool) → is_of_statement e ≡ s → is_of_disk e ≡ d → (s && not d) ≡ true
        → IsExcused old new e
    go true false s d h =
        record { named = s; disk = λ it. absurd (let w : false ≡ true = sym d ∙ it in cc) }
    go true true s d h = absurd (let w : false ≡ true = h in cc)
    go false d s d' h = absurd (let w : false ≡ true = h in cc)

pub failed : (old new : State) (T : Type 0) (e : Error) → Fails old new T e → IsExcused old new e
failed old new T e h = go h.0 h.1 h.2
  where
    go : (cause : StoreError) → e ≡ store_error cause → HasCause old new T cause
        → IsExcused old new e
    go OutOfMemory is h = rw is (refused old new _ refl)
    go Io is h = record { named = rw is refl; disk = λ _ _. h }
    go Corrupt is h = record { named = rw is refl; disk = λ _ _. h }
    go Full is h = record { named = rw is refl; disk = λ _ _. h }
    go Broken is h =
        record {
          named = rw is refl;
          disk = λ _ up. absurd
              (let w : false ≡ true = sym h ∙ up in cc);
        }
    go Unstorable is h = rw is (refused old new _ refl)

-- ---- the calls of a connection

same_error : (T : Type 0) (a b : Error) → (let r : Result T Error = Err a in r ≡ Err b) → a ≡ b
same_error T a b is = cc

module _ (old new : State) where
  no_statement : (sql : List ℕ) (params : Row) (e : Error) → IsNoStatement old sql params e
      → IsExcused old new e
  no_statement sql params e (inl h) = rw h.2 (refused old new _ refl)
  no_statement sql params e (inr (c, is, inl h)) = rw h.1 (refused old new _ refl)
  no_statement sql params e (inr (c, is, inr (inl h))) = rw h.1 (refused old new _ refl)
  no_statement sql params e (inr (c, is, inr (inr h))) = rw h.1 (refused old new _ refl)

  not_run : (sql : List ℕ) (params : Row) (e : Error) → IsNotRun old new sql params e
      → IsExcused old new e
  unfolding IsNotRun
  not_run sql params e (inl h) = no_statement sql params e h.0
  not_run sql params e (inr h) = failed old new _ e h

  misplaced : (command : Command) (e : Error) → IsMisplaced old command e → IsExcused old new e
  misplaced command e (inl h) = rw h.0 (refused old new _ refl)
  misplaced command e (inr h) = rw h.0 (refused old new _ refl)

  command : (sql : List ℕ) (c : Compiled) (params : Row) (e : Error)
      → RunsCommand old new sql c params (Err e) → IsExcused old new e
  command sql c params e (inl (inl h, same)) = misplaced c.command e h
  command sql c params e (inl (inr h, same)) =
      refused old new e
      (mildly old.step_limit (mode_of old) params old.now _ c.returning c.command _ h.1)
  command sql c params e (inr h) = failed old new _ e h

  executes : (sql : List ℕ) (params : Row) (e : Error) → ExecutesIn false sql params old new (Err e)
      → IsExcused old new e
  unfolding ExecutesIn
  executes sql params e (inl h) = not_run sql params e h
  executes sql params e (inr h) = either (shows_rows false h.0) _ _ _
      (λ shows. rw (same_error ℕ e _ shows.0) (refused old new _ refl)) (command sql h.0 _ e) h.2

  pub inside : (sql : List ℕ) (params : Row) (e : Error)
      → ExecutesInside 0 sql params old new (Err e) → IsExcused old new e
  inside sql params e (inl h) = executes sql params e h.0
  inside sql params e (inr h) = rw h.1 (refused old new _ refl)

  reads : (c : Command) (db : Database) (params : Row) (e : Error)
      → RefusesToRead old.step_limit c db params e → is_refusal e ≡ true
  reads (Select q names) db params e h = refuses_query _ db q params e h
  reads (Rows values width names) db params e h = ap is_refusal h.0
  reads _ db params e h = ap is_refusal h

  shown : (sql : List ℕ) (c : Compiled) (params : Row) (e : Error) (what : Option Returning)
      → FailsToShow old new sql c params e what → IsExcused old new e
  shown sql c params e None h = refused old new e (reads c.command h.0 params e h.2)
  shown sql c params e (Some what) h = command sql c params e h

  queries : (sql : List ℕ) (params : Row) (e : Error) → FailsToQuery sql params old new e
      → IsExcused old new e
  unfolding FailsToQuery
  queries sql params e (inl h) = not_run sql params e h
  queries sql params e (inr h) = shown sql h.0 _ e h.0.returning h.2

  pub asked : {T : Type 0} (sql : List ℕ) (params : Row) (r : Result T Error)
      → IfErr r (FailsToQuery sql params old new) → IfErr r (IsExcused old new)
  asked sql params (Ok x) h = tt
  asked sql params (Err e) h = queries sql params e h

-- ---- an error of a later call

pub excused_after : (a b c : State) (P : Trees → Type 0) (e : Error) → Survives a b P
    → b.faults ≤ c.faults → HasCleanDisk b → IsExcused b c e → IsExcused a c e
excused_after a b c P e first counts clean h = record {
  named = h.named;
  disk = λ is up. go is (first.closes clean up);
}
  where
    go : IsTrue (is_of_disk e) → IsTrue b.is_open ⊎ MoreFaults a.faults b.faults
        → MoreFaults a.faults c.faults
    go is (inl up) = let more = h.disk is up in omega (arith, first.counts, more)
    go is (inr more) = omega (arith, more, counts)
