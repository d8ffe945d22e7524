-- What a call that only reads the store leaves, for each of its ends.
use Rattle.std.proofs.Common.{◌≡◌, ◌≢◌, true, false, Option, Some, Ok, Err, Result, IfErr}
use Rattle.std.proofs.Common.{OnOk, refl, sym, ap, ◌∙◌, arith}
use Rattle.std.specs.Prelude.{is_some}
use Rattle.sqlite.specs.State.{State, HasCleanDisk}
use Rattle.sqlite.specs.declared.error.Error.{Error}
use Rattle.register_store.specs.Registers.{is_failure}
use Rattle.register_store.specs.declared.store_fault.StoreFault.{StoreFault}
use Rattle.register_store.specs.declared.store_fault.StoreFault.TheVariants.{Store}
use Rattle.register_sql.specs.Binding.{IsSettled}
use Rattle.register_sql.specs.Failing.{IsExcused, IsFaultOf}
use Rattle.register_sql.specs.Posting.{Survived}
use Rattle.register_sql.specs.Stores.{OnlyReads}
use Rattle.register_sql.proofs.Holds.{Laws, same_comes, still_comes}

on_ok : {T : Type 0} (Q : Type 0) (r : Result T StoreFault) → Q → OnOk r Q
on_ok Q (Ok x) q = q
on_ok Q (Err fault) q = tt

-- the register had stopped before
pub reads_none : {T : Type 0} (s : State) (was : Option Error) (r : Result T StoreFault)
    → is_some was ≡ true → r ≡ Err Store → OnlyReads s s was was r
reads_none {T} s was r is failed = record {
  unchanged = still_comes s;
  faults = rw failed refl;
  store = λ _. is;
  stops = record {
    going = rw failed tt;
    stays = λ _. (failed, is);
    cause = λ _. rw failed refl;
  };
  excused = λ going _. absurd (let e : false ≡ true = sym going ∙ is in cc);
}

module _ {T : Type 0} (old new : State) (was is : Option Error) (r : Result T StoreFault)
    (running : is_some was ≡ false) (before : Laws old) (after : Laws new)
    (up : HasCleanDisk old → IsSettled old) (survives : Survived old new) where
  early : HasCleanDisk new → HasCleanDisk old
  early clean = omega (arith, survives.clean, clean)

  -- no statement failed
  pub reads_on : is_some is ≡ false → r ≢ Err Store → IfErr r (λ fault. is_failure fault ≡ true)
      → OnlyReads old new was is r
  reads_on still other fails = record {
    unchanged = same_comes old new before after up survives;
    faults = fails;
    store = λ failed. absurd (other failed);
    stops = record {
      going = on_ok (is_some is ≡ false) r still;
      stays = λ stopped. absurd (let e : false ≡ true = sym running ∙ stopped in cc);
      cause = λ stopped. absurd (let e : false ≡ true = sym still ∙ stopped in cc);
    };
    excused = λ _ stopped. absurd (let e : false ≡ true = sym still ∙ stopped in cc);
  }

  -- a statement failed with this error
  pub reads_stopped : (error : Error) (fault : StoreFault) → is ≡ Some error → r ≡ Err fault
      → is_failure fault ≡ true → IsFaultOf error fault
      → (HasCleanDisk new → IsExcused old new error) → OnlyReads old new was is r
  reads_stopped error fault stopped failed fails of excused = record {
    unchanged = same_comes old new before after up survives;
    faults = rw failed fails;
    store = λ _. ap is_some stopped;
    stops = record {
      going = rw failed tt;
      stays = λ it. absurd (let e : false ≡ true = sym running ∙ it in cc);
      cause = λ _. rw failed fails;
    };
    excused = λ _ _. (
      error,
      stopped,
      rw failed of,
      λ clean. ((up (early clean)).is_open, excused clean),
    );
  }
