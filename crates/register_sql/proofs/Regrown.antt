-- What replacing the setup of a whole store leaves.
use Rattle.std.proofs.Common.{◌≡◌, ◌⊎◌, inl, [], false, true, Ok, Err, Result, OnOk, OnErr}
use Rattle.std.proofs.Common.{IsTrue, sym, subst}
use Rattle.std.proofs.Common.{◌∙◌, arith}
use Rattle.std.proofs.lemmas.List.Sorted.{IsPermutation-map, IsPermutation-trans}
use Rattle.nest_core.specs.Museum.{Museum}
use Rattle.nest_core.specs.SetupTexts.{setup_rows}
use Rattle.sqlite.proofs.StateLemmas.{survives_then}
use Rattle.sqlite.specs.Effect.{Database}
use Rattle.sqlite.specs.Held.{Held, state}
use Rattle.sqlite.specs.State.{State, KeepsCounts, Shows, HasCleanDisk, Survives}
use Rattle.sqlite.specs.Store.{Ghosts}
use Rattle.sqlite.specs.Tree.{Trees}
use Rattle.sqlite.specs.declared.error.Error.{Error}
use Rattle.sqlite_catalog.specs.Listing.{IsSound}
use Rattle.register_store.specs.Holdings.{Comes}
use Rattle.register_store.specs.StoredRows.{AreSame, Content}
use Rattle.register_store.specs.declared.store_fault.StoreFault.{StoreFault}
use Rattle.register_sql.specs.Binding.{IsSettled}
use Rattle.register_sql.specs.Growing.{with_setup, IsGrown}
use Rattle.register_sql.specs.Making.{Goes, ReplacesSetup, setup_from}
use Rattle.register_sql.specs.Queries.{IsSame}
use Rattle.register_sql.specs.Posting.{IsDone, IsReady, IsWhole, LeavesWhole, Turns}
use Rattle.register_sql.specs.Rows.{AreRows, Apart, IsStored, setup_cells}
use Rattle.register_sql.specs.Stores.{in_store}
use Rattle.register_sql.proofs.Binds.{same_all}
use Rattle.register_sql.proofs.Holds.{Laws, comes_weaker, done_comes, still_comes, held_shown}
use Rattle.register_sql.proofs.Holds.{shown_held, open_ready}
use Rattle.register_sql.proofs.Ends.{survives_whole}
use Rattle.register_sql.proofs.Filled.{goes_begin}
use Rattle.register_sql.proofs.Profiles.{setup_rows_are}

-- the content with the rows of the setup replaced
turns_setup : (S : Museum) (db next : Trees)
    → ReplacesSetup (setup_from 1 (setup_rows S)) db next → Turns (with_setup S) db next
turns_setup S db next replaces c held = record {
  meta = rw replaces.meta held.meta;
  setup = IsPermutation-trans _ _ _ (IsPermutation-map setup_cells _ _ (setup_rows_are S))
      replaces.setup;
  postings = rw replaces.others.postings held.postings;
  spots = rw replaces.others.spots held.spots;
  lines = rw replaces.others.lines held.lines;
  terms = rw replaces.others.terms held.terms;
}

module _ (S : Museum) (old mid : State) (ready : IsReady old)
    (went : Goes 6 (ReplacesSetup (setup_from 1 (setup_rows S))) old mid) where
  whole_still : IsWhole mid.now
  whole_still =
      let still = went.stays ready.is_open in
      record {
        schema = went.is.schema still;
        sound = went.is.sound still;
        lines = subst Apart (sym went.rows.others.lines) ready.whole.lines;
        terms = subst Apart (sym went.rows.others.terms) ready.whole.terms;
      }

  leaves_grown : LeavesWhole old (with_setup S) mid.now.trees
  leaves_grown = record {
    sound = subst (λ k. IsSound k mid.now.trees) whole_still.schema whole_still.sound;
    rows = turns_setup S old.now.trees mid.now.trees went.rows;
  }

  pub grown_by_commit : {T : Type 0} (new : State) (r : Result T Error)
      → OnOk r (IsTrue mid.in_transaction × Shows mid new mid.now mid.now false
      × KeepsCounts mid new × (new.marks ≡ [])) → OnOk r (IsDone old new (with_setup S))
  grown_by_commit new (Err e) ok = tt
  grown_by_commit new (Ok x) ok =
      let shown = ok.1 in
      record {
        was_open = ready.is_open;
        is_open = shown.is_open;
        whole = subst IsWhole (sym shown.now_is) whole_still;
        rows = subst (λ (d : Database). Turns (with_setup S) old.now.trees d.trees)
            (sym shown.now_is) (turns_setup S old.now.trees mid.now.trees went.rows);
        committed = shown.committed_is ∙ sym shown.now_is;
      }

pub survives_grown : {T : Type 0} (g : Ghosts T) (S : Museum) (old : Held T) (mid new : State)
    → (HasCleanDisk (state g old) → IsReady (state g old))
    → Survives (state g (record old { in_transaction = true })) mid (λ _. ⊥)
    → Survives mid new (λ db. db ≡ mid.now.trees)
    → (HasCleanDisk mid → Goes 6 (ReplacesSetup (setup_from 1 (setup_rows S)))
    (state g (record old { in_transaction = true })) mid)
    → Survives (state g old) new (LeavesWhole (state g old) (with_setup S))
survives_grown g S old mid new ready first second went =
    survives_whole g old mid new (LeavesWhole (state g old) (with_setup S)) first second
    (λ clean. leaves_grown S (state g old) mid (ready (omega (arith, first.clean, clean)))
    (goes_begin g old mid _ (went clean)))

-- the database was read before the setup was replaced
pub survives_after : (S : Museum) (old mid new : State) → Survives old mid (λ _. ⊥)
    → (HasCleanDisk mid → IsSame old mid) → Survives mid new (LeavesWhole mid (with_setup S))
    → Survives old new (LeavesWhole old (with_setup S))
survives_after S old mid new first same second =
    survives_then old mid new _ _ (LeavesWhole old (with_setup S)) (λ _ db none. absurd none)
    (λ clean db left. record {
      sound = left.sound;
      rows = subst (λ (d : Database). Turns (with_setup S) d.trees db)
          (same (omega (arith, second.clean, clean))).now left.rows;
    }) first second

-- the answer of a call that grows the setup
pub answer_grown : {T : Type 0} (S : Museum) (old new : State) (P : Trees → Type 0)
    (r : Result T StoreFault) → Laws old → Laws new → (HasCleanDisk old → IsReady old)
    → (HasCleanDisk old → (c : Content) × AreRows old.now.trees c) → Survives old new P
    → (HasCleanDisk new → OnOk r (IsDone old new (with_setup S)))
    → OnOk r (Comes (in_store old) (in_store new) (IsGrown S))
answer_grown S old new P (Err f) before after ready content survives done = tt
answer_grown S old new P (Ok x) before after ready content survives done =
    done_comes (with_setup S) old new P before after ready content survives done

pub answer_failed : {T : Type 0} (Q : Type 0) (r : Result T StoreFault) → Q → OnErr r Q
answer_failed Q (Ok x) q = tt
answer_failed Q (Err f) q = q

-- the store is as it was, unless a statement failed
pub same_comes_on : (old new : State) (P : Trees → Type 0) → Laws old → Laws new
    → (HasCleanDisk old → IsReady old) → Survives old new P
    → (HasCleanDisk new → IsSame old new) → Comes (in_store old) (in_store new) AreSame
same_comes_on old new P before after ready survives same = record {
  quiet = λ clean. omega (arith, survives.clean, clean);
  some = λ clean none c held.
      let it = same clean in
      let was = open_ready old (ready (omega (arith, survives.clean, clean))) in
      none c (shown_held new after (still it was) c
      (subst (λ (d : Database). IsStored d.trees c) (sym it.now)
      (held_shown old before was c held)));
  from = λ clean d held.
      let it = same clean in
      let was = open_ready old (ready (omega (arith, survives.clean, clean))) in
      let stored = subst (λ (k : Database). IsStored k.trees d) it.now
      (held_shown new after (still it was) d held) in
      (d, shown_held old before was d stored, same_all d);
}
  where
    still : IsSame old new → IsSettled old → IsSettled new
    still it was =
        record { is_open = it.is_open; settled = it.now ∙ was.settled ∙ sym it.committed }

pub answer_same : {T : Type 0} (old new : State) (P : Trees → Type 0) (r : Result T StoreFault)
    → Laws old → Laws new → (HasCleanDisk old → IsReady old) → Survives old new P
    → (HasCleanDisk new → OnErr r (IsSame old new))
    → OnErr r (Comes (in_store old) (in_store new) AreSame)
answer_same old new P (Ok x) before after ready survives same = tt
answer_same old new P (Err f) before after ready survives same =
    same_comes_on old new P before after ready survives same

pub still_ungrown : (S : Museum) (s : State)
    → Comes (in_store s) (in_store s) (λ c d. AreSame c d ⊎ IsGrown S c d)
still_ungrown S s = comes_weaker s s (λ c d same. inl same) (still_comes s)
