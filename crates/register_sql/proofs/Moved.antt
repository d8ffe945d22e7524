-- A migration changes the content of a store as a register promises.
use Rattle.std.proofs.Common.{◌≡◌, inl, inr, Bool, true, false, Option, None, Ok, Err, Result}
use Rattle.std.proofs.Common.{IfErr, OnOk, sym, subst, ◌∙◌, arith}
use Rattle.std.proofs.Math.Logic.{∥∥₁_elim}
use Rattle.nest_core.specs.Museum.{Museum}
use Rattle.sqlite.specs.Effect.{Database}
use Rattle.sqlite.specs.State.{State, HasCleanDisk, Survives}
use Rattle.sqlite.specs.Tree.{Trees}
use Rattle.sqlite.specs.declared.error.Error.{Error}
use Rattle.register_store.specs.Holdings.{Comes}
use Rattle.register_store.specs.Registers.{is_failure}
use Rattle.register_store.specs.StoredRows.{Content}
use Rattle.register_store.specs.declared.store_fault.StoreFault.{StoreFault}
use Rattle.register_store.specs.declared.store_fault.StoreFault.TheVariants.{NoMemory, Store}
use Rattle.register_store.specs.declared.store_fault.StoreFault.TheVariants.{OtherSetup, Damaged}
use Rattle.register_store.specs.declared.store_fault.StoreFault.TheVariants.{OtherVersion}
use Rattle.register_sql.specs.Binding.{IsSettled}
use Rattle.register_sql.specs.Migrating.{IsMigrateFault, Migrates, IsNotMigrated, IsMoved, IsSecond}
use Rattle.register_sql.specs.Migrating.{IsRaised, IsCompleted, IsLeft, LeavesMoved}
use Rattle.register_sql.specs.Posting.{IsWhole, IsReady}
use Rattle.register_sql.specs.Queries.{IsSame}
use Rattle.register_sql.specs.Rows.{AreRows, IsStored}
use Rattle.register_sql.specs.Stores.{in_store, IsKept}
use Rattle.register_sql.proofs.Binds.{part_of, same_all}
use Rattle.register_sql.proofs.Holds.{Laws, Holds, shown_held, held_shown, rows_held, held_rows}
use Rattle.register_sql.proofs.Holds.{ready_left, no_two}

still : (old new : State) → IsSame old new → IsSettled old → IsSettled new
still old new same was =
    record { is_open = same.is_open; settled = same.now ∙ was.settled ∙ sym same.committed }

moved_comes : (S : Museum) (old new : State) → Laws old → Laws new
    → (HasCleanDisk new → HasCleanDisk old) → (HasCleanDisk old → IsSettled old) → HasCleanDisk new
    → IsMoved S old new
    → (d : Content) → Holds new d → (c : Content) × Holds old c × Migrates S c d
moved_comes S old new before after early up clean it d held =
    let came = it.comes d (held_rows new after it.ready d held) in
    (came.0, shown_held old before (up (early clean)) came.0 came.1, inl came.2)

second_comes : (S : Museum) (old new : State) → Laws old → Laws new
    → (HasCleanDisk new → HasCleanDisk old) → (HasCleanDisk old → IsSettled old) → HasCleanDisk new
    → IsSecond old new
    → (d : Content) → Holds new d → (c : Content) × Holds old c × Migrates S c d
second_comes S old new before after early up clean it d held =
    let was = up (early clean) in
    let stored = subst (λ (k : Database). IsStored k.trees d) it.same.now
    (held_shown new after (still old new it.same was) d held) in
    (d, shown_held old before was d stored, inr (it.second d stored, same_all d))

pub raised_comes : (S : Museum) (old new : State) (P : Trees → Type 0) → Laws old → Laws new
    → (HasCleanDisk old → IsSettled old) → Survives old new P
    → (HasCleanDisk new → IsRaised S old new) → Comes (in_store old) (in_store new) (Migrates S)
raised_comes S old new P before after up survives is = record {
  quiet = early;
  some = λ clean none c held. some clean (is clean) none c held;
  from = λ clean d held. from clean (is clean) d held;
}
  where
    early : HasCleanDisk new → HasCleanDisk old
    early clean = omega (arith, survives.clean, clean)

    some : HasCleanDisk new → IsRaised S old new → ((d : Content) → Holds new d → ⊥) → (c : Content)
        → Holds old c → ⊥
    some clean (inl it) none c held =
        none it.content.0 (rows_held new after it.ready it.content.0 it.content.1)
    some clean (inr it) none c held =
        let was = up (early clean) in
        none c (shown_held new after (still old new it.same was) c
        (subst (λ (k : Database). IsStored k.trees c) (sym it.same.now)
        (held_shown old before was c held)))

    from : HasCleanDisk new → IsRaised S old new → (d : Content) → Holds new d
        → (c : Content) × Holds old c × Migrates S c d
    from clean (inl it) d held = moved_comes S old new before after early up clean it d held
    from clean (inr it) d held = second_comes S old new before after early up clean it d held

pub left_comes : (S : Museum) (fault : StoreFault) (old new : State) (P : Trees → Type 0) → Laws old
    → Laws new → (HasCleanDisk old → IsSettled old) → Survives old new P
    → (HasCleanDisk new → IsLeft S old new fault)
    → Comes (in_store old) (in_store new) (IsNotMigrated S fault)
left_comes S fault old new P before after up survives is = record {
  quiet = λ clean. omega (arith, survives.clean, clean);
  some = λ clean none c held.
      let it = is clean in
      let was = up (omega (arith, survives.clean, clean)) in
      none c (shown_held new after (still old new it.same was) c
      (subst (λ (k : Database). IsStored k.trees c) (sym it.same.now)
      (held_shown old before was c held)));
  from = λ clean d held.
      let it = is clean in
      let was = up (omega (arith, survives.clean, clean)) in
      let stored = subst (λ (k : Database). IsStored k.trees d) it.same.now
      (held_shown new after (still old new it.same was) d held) in
      (d, shown_held old before was d stored, (it.cause d stored, inl (same_all d)));
}

failure_cause : (S : Museum) (c : Content) (fault : StoreFault) → is_failure fault ≡ true
    → IsMigrateFault S c fault
failure_cause S c NoMemory is = tt
failure_cause S c Store is = tt
failure_cause S c OtherSetup is = absurd (let e : false ≡ true = is in cc)
failure_cause S c (Damaged at) is = absurd (let e : false ≡ true = is in cc)
failure_cause S c OtherVersion is = absurd (let e : false ≡ true = is in cc)

-- a statement failed
pub unmoved_comes : (S : Museum) (fault : StoreFault) (old new : State) → is_failure fault ≡ true
    → Laws old → Laws new → (HasCleanDisk old → IsSettled old)
    → Survives old new (LeavesMoved S old)
    → Comes (in_store old) (in_store new) (IsNotMigrated S fault)
unmoved_comes S fault old new fails before after up survives = record {
  quiet = λ clean. omega (arith, survives.clean, clean);
  some = λ clean none c held.
      let was = up (omega (arith, survives.clean, clean)) in
      ∥∥₁_elim (after.survives clean) no_two (λ left. elim (survives.crash clean left.0 left.1) [
        | inl had ↦
            none c (
              left.0,
              left.1,
              subst (λ db. IsStored db c)
                  (before.settled held.0 was.is_open held.1
                  ∙ sym (before.settled left.0 was.is_open had))
                  held.2,
            )
        | inr moved ↦ none moved.content.0 (
          left.0,
          left.1,
          record { made = 6; few = omega arith; sound = moved.sound; rows = moved.content.1 },
        )
      ]);
  from = λ clean d held.
      let was = up (omega (arith, survives.clean, clean)) in
      elim (survives.crash clean held.0 held.1) [
        | inl had ↦ (d, (held.0, had, held.2), (failure_cause S d fault fails, inl (same_all d)))
        | inr moved ↦
            let came = moved.comes d (part_of 6 (omega arith) held.0 moved.sound d held.2) in (
              came.0,
              shown_held old before was came.0 came.1,
              (failure_cause S came.0 fault fails, inr (fails, came.2)),
            )
      ];
}

pub still_unmoved : (S : Museum) (fault : StoreFault) (s : State) → is_failure fault ≡ true
    → Comes (in_store s) (in_store s) (IsNotMigrated S fault)
still_unmoved S fault s fails =
    record {
      quiet = λ clean. clean;
      some = λ clean none. none;
      from = λ clean d held. (d, held, (failure_cause S d fault fails, inl (same_all d)));
    }

-- ---- facts about the connection after a migration

-- an answer, whether the store is of version 2 now or nothing was changed
pub answer_kept : {X : Type 0} (S : Museum) (old new : State) (P : Trees → Type 0) (bound : Bool)
    (stopped : Option Error) (r : Result X StoreFault) → stopped ≡ None → IsKept old bound stopped
    → new.in_transaction ≡ false → Survives old new P
    → (HasCleanDisk new → OnOk r (IsRaised S old new))
    → (HasCleanDisk new → IfErr r (IsLeft S old new)) → IsKept new bound stopped
answer_kept {X} S old new P bound stopped r none kept between survives raised left = record {
  between = between;
  settled = λ _ clean. settled_by r clean (raised clean) (left clean);
  ready = λ _ bind clean. ready_by r bind clean (raised clean) (left clean);
  content = λ _ bind clean. content_by r bind clean (raised clean) (left clean);
}
  where
    early : HasCleanDisk new → HasCleanDisk old
    early clean = omega (arith, survives.clean, clean)

    same_ready : bound ≡ true → HasCleanDisk new → IsSame old new → IsReady new
    same_ready bind clean it = let was = kept.ready none bind (early clean) in
        record {
          is_open = it.is_open;
          settled = it.now ∙ was.settled ∙ sym it.committed;
          whole = subst IsWhole (sym it.now) was.whole;
        }

    same_content : bound ≡ true → HasCleanDisk new → IsSame old new
        → (c : Content) × AreRows new.now.trees c
    same_content bind clean it = let had = kept.content none bind (early clean) in
        (had.0, subst (λ (d : Database). AreRows d.trees had.0) (sym it.now) had.1)

    settled_by : (q : Result X StoreFault) → HasCleanDisk new → OnOk q (IsRaised S old new)
        → IfErr q (IsLeft S old new) → IsSettled new
    settled_by (Ok x) clean (inl it) refused =
        record { is_open = it.ready.is_open; settled = it.ready.settled }
    settled_by (Ok x) clean (inr it) refused =
        still old new it.same (kept.settled none (early clean))
    settled_by (Err e) clean gone it = still old new it.same (kept.settled none (early clean))

    ready_by : (q : Result X StoreFault) → bound ≡ true → HasCleanDisk new
        → OnOk q (IsRaised S old new) → IfErr q (IsLeft S old new) → IsReady new
    ready_by (Ok x) bind clean (inl it) refused = it.ready
    ready_by (Ok x) bind clean (inr it) refused = same_ready bind clean it.same
    ready_by (Err e) bind clean gone it = same_ready bind clean it.same

    content_by : (q : Result X StoreFault) → bound ≡ true → HasCleanDisk new
        → OnOk q (IsRaised S old new) → IfErr q (IsLeft S old new)
        → (c : Content) × AreRows new.now.trees c
    content_by (Ok x) bind clean (inl it) refused = it.content
    content_by (Ok x) bind clean (inr it) refused = same_content bind clean it.same
    content_by (Err e) bind clean gone it = same_content bind clean it.same

-- ---- an answer's clauses

pub ok_comes : {X : Type 0} (S : Museum) (old new : State) (P : Trees → Type 0)
    (r : Result X StoreFault) → Laws old → Laws new → (HasCleanDisk old → IsSettled old)
    → Survives old new P → (HasCleanDisk new → OnOk r (IsRaised S old new))
    → OnOk r (Comes (in_store old) (in_store new) (Migrates S))
ok_comes S old new P (Ok x) before after up survives is =
    raised_comes S old new P before after up survives is
ok_comes S old new P (Err e) before after up survives is = tt

pub ok_completed : {X : Type 0} (S : Museum) (old new : State) (r : Result X StoreFault) → Laws new
    → OnOk r (IsRaised S old new) → OnOk r (IsCompleted old new)
ok_completed S old new (Ok x) after (inl it) = inl (ready_left new after it.ready)
ok_completed S old new (Ok x) after (inr it) = inr it
ok_completed S old new (Err e) after is = tt

pub err_comes : {X : Type 0} (S : Museum) (old new : State) (P : Trees → Type 0)
    (r : Result X StoreFault) → Laws old → Laws new → (HasCleanDisk old → IsSettled old)
    → Survives old new P → (HasCleanDisk new → IfErr r (IsLeft S old new))
    → IfErr r (λ fault. Comes (in_store old) (in_store new) (IsNotMigrated S fault))
err_comes S old new P (Ok x) before after up survives is = tt
err_comes S old new P (Err e) before after up survives is =
    left_comes S e old new P before after up survives is
