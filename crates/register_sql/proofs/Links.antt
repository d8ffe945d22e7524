-- Facts about a register's connection after a call.
use Rattle.std.proofs.Common.{◌≡◌, ℕ, Bool, true, false, Option, None, Some, refl, sym}
use Rattle.std.proofs.Common.{subst, ◌∙◌, arith, Ok, Err, Result, IfOk, IfErr}
use Rattle.std.proofs.lemmas.Option.{none-some}
use Rattle.nest_core.specs.Museum.{Museum}
use Rattle.sqlite.specs.Effect.{Database}
use Rattle.sqlite.specs.State.{State, HasCleanDisk, Survives}
use Rattle.sqlite.specs.Tree.{Trees}
use Rattle.sqlite.specs.declared.error.Error.{Error}
use Rattle.register_store.specs.Holdings.{Each}
use Rattle.register_store.specs.Registers.{is_failure, is_of_listing, IsListFault}
use Rattle.register_store.specs.StoredRows.{Content}
use Rattle.register_store.specs.declared.store_fault.StoreFault.{StoreFault}
use Rattle.register_store.specs.declared.store_fault.StoreFault.TheVariants.{NoMemory, Store}
use Rattle.register_store.specs.declared.store_fault.StoreFault.TheVariants.{OtherSetup, Damaged}
use Rattle.register_store.specs.declared.store_fault.StoreFault.TheVariants.{OtherVersion}
use Rattle.register_sql.specs.Binding.{IsBoundAs}
use Rattle.register_sql.specs.Posting.{IsWhole, IsReady, IsDone}
use Rattle.register_sql.specs.Queries.{IsPart, IsSame}
use Rattle.register_sql.specs.Rows.{AreRows}
use Rattle.register_sql.specs.Stores.{in_store, IsKept}
use Rattle.register_sql.proofs.Holds.{Laws, each_read}

-- ---- the connection's invariant stays true

pub stopped_kept : (s : State) (bound : Bool) (stopped : Option Error) (error : Error)
    → s.in_transaction ≡ false → stopped ≡ Some error → IsKept s bound stopped
stopped_kept s bound stopped error between is = record {
  between = between;
  settled = λ none clean. absurd (none-some error (sym none ∙ is));
  ready = λ none bind clean. absurd (none-some error (sym none ∙ is));
  content = λ none bind clean. absurd (none-some error (sym none ∙ is));
}

-- nothing was changed
pub same_kept : (old new : State) (P : Trees → Type 0) (bound : Bool) (stopped : Option Error)
    → IsKept old bound stopped → new.in_transaction ≡ false → Survives old new P
    → (HasCleanDisk new → IsSame old new) → IsKept new bound stopped
same_kept old new P bound stopped kept between survives same = record {
  between = between;
  settled = λ none clean. let it = same clean in let was = kept.settled none (early clean) in
      record { is_open = it.is_open; settled = it.now ∙ was.settled ∙ sym it.committed };
  ready = λ none bind clean. let it = same clean in let was = kept.ready none bind (early clean) in
      record {
        is_open = it.is_open;
        settled = it.now ∙ was.settled ∙ sym it.committed;
        whole = subst IsWhole (sym it.now) was.whole;
      };
  content = λ none bind clean. let it = same clean in let had =
      kept.content none bind (early clean) in
      (had.0, subst (λ (d : Database). AreRows d.trees had.0) (sym it.now) had.1);
}
  where
    early : HasCleanDisk new → HasCleanDisk old
    early clean = omega (arith, survives.clean, clean)

-- a posting was made
pub done_kept : (old new : State) (P : Trees → Type 0) (change : Content → Content)
    (stopped : Option Error) → stopped ≡ None → IsKept old true stopped → new.in_transaction ≡ false
    → Survives old new P → (HasCleanDisk new → IsDone old new change) → IsKept new true stopped
done_kept old new P change stopped none kept between survives done = record {
  between = between;
  settled = λ _ clean. let it = done clean in
      record { is_open = it.is_open; settled = sym it.committed };
  ready = λ _ bind clean. let it = done clean in
      record { is_open = it.is_open; settled = sym it.committed; whole = it.whole };
  content = λ _ bind clean. let it = done clean in let had = kept.content none refl (early clean) in
      (change had.0, it.rows had.0 had.1);
}
  where
    early : HasCleanDisk new → HasCleanDisk old
    early clean = omega (arith, survives.clean, clean)

-- a setup was bound
pub bound_kept : (S : Museum) (depth : ℕ) (old new : State) (stopped : Option Error)
    → stopped ≡ None → new.in_transaction ≡ false → (HasCleanDisk new → IsBoundAs S depth old new)
    → IsKept new true stopped
bound_kept S depth old new stopped none between bound = record {
  between = between;
  settled = λ _ clean. let it = (bound clean).ready in
      record { is_open = it.is_open; settled = it.settled };
  ready = λ _ bind clean. (bound clean).ready;
  content = λ _ bind clean. (bound clean).content;
}

pub ready_part : (s : State) → IsReady s → IsPart 6 s
ready_part s ready = record {
  is_open = ready.is_open;
  settled = ready.settled;
  schema = ready.whole.schema;
  sound = ready.whole.sound;
}

-- ---- the rows that were read are those of each content that the store may hold

module _ (old new : State) (stopped : Option Error) (kept : IsKept old true stopped)
    (none : stopped ≡ None) (survives : Survives old new (λ _. ⊥)) (same : HasCleanDisk new
    → IsSame old new) (after : Laws new) where
  pub read_each : (Q : Content → Type 0)
      → (HasCleanDisk new → (c : Content) → AreRows old.now.trees c → Q c) → Each (in_store new) Q
  read_each Q = each_read old new Q after (λ clean. omega (arith, survives.clean, clean))
      (kept.ready none refl) same

  pub read_ok : {X : Type 0} (r : Result X StoreFault) (Q : X → Content → Type 0)
      → (HasCleanDisk new → IfOk r (λ x. (c : Content) → AreRows old.now.trees c → Q x c))
      → IfOk r (λ x. Each (in_store new) (Q x))
  read_ok (Ok x) Q h = read_each (Q x) h
  read_ok (Err fault) Q h = tt

  pub read_err : {X : Type 0} (r : Result X StoreFault) (Q : StoreFault → Content → Type 0)
      → (HasCleanDisk new → IfErr r (λ fault. (c : Content) → AreRows old.now.trees c → Q fault c))
      → IfErr r (λ fault. Each (in_store new) (Q fault))
  read_err (Ok x) Q h = tt
  read_err (Err fault) Q h = read_each (Q fault) h

-- ---- a failure is a fault of any call

pub lists_failure : (stations : ℕ) (c : Content) (fault : StoreFault) → is_failure fault ≡ true
    → IsListFault stations c fault
lists_failure stations c NoMemory is = tt
lists_failure stations c Store is = tt
lists_failure stations c OtherSetup is = absurd (let e : false ≡ true = is in cc)
lists_failure stations c (Damaged at) is = absurd (let e : false ≡ true = is in cc)
lists_failure stations c OtherVersion is = absurd (let e : false ≡ true = is in cc)

pub failure_listed : (fault : StoreFault) → is_failure fault ≡ true → is_of_listing fault ≡ true
failure_listed NoMemory is = refl
failure_listed Store is = refl
failure_listed OtherSetup is = absurd (let e : false ≡ true = is in cc)
failure_listed (Damaged at) is = absurd (let e : false ≡ true = is in cc)
failure_listed OtherVersion is = absurd (let e : false ≡ true = is in cc)
