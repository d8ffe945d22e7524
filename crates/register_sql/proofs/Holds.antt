-- The rows that a register over a connection may hold come from those that it may have held.
use Rattle.std.proofs.Common.{◌≡◌, ◌⊎◌, inl, inr, ℕ, true, false, IsTrue, refl, sym, ap, subst, ◌∙◌}
use Rattle.std.proofs.Common.{arith, Err, List, [], ◌∷◌, map}
use Rattle.std.proofs.Math.Logic.{∥∥₁_elim}
use Rattle.std.specs.List.Sorted.{IsPermutation}
use Rattle.std.proofs.lemmas.List.Sorted.{IsPermutation-refl, length_permutation}
use Rattle.nest_core.specs.Museum.{Museum}
use Rattle.posting_core.specs.declared.entry.Changes.{Changes}
use Rattle.posting_core.specs.declared.entry.Entry.{Entry}
use Rattle.sqlite.specs.Effect.{Database, IsDatabase}
use Rattle.sqlite.specs.State.{State, HasCleanDisk, Survives}
use Rattle.sqlite.specs.Tree.{Trees}
use Rattle.sqlite_catalog.specs.Listing.{IsSound}
use Rattle.register_store.specs.Holdings.{Each, Has, Comes, IsPosted, IsBound, IsNotBound}
use Rattle.register_store.specs.Registers.{is_failure, IsBindFault, CountsRefusal}
use Rattle.register_store.specs.StoredRows.{Content, PostingRow, AreSame, IsBoundTo, IsPostingRow}
use Rattle.register_store.specs.StoredRows.{with_posted}
use Rattle.register_store.specs.declared.store_fault.StoreFault.{StoreFault}
use Rattle.register_store.specs.declared.store_fault.StoreFault.TheVariants.{NoMemory, Store}
use Rattle.register_store.specs.declared.store_fault.StoreFault.TheVariants.{OtherSetup, Damaged}
use Rattle.register_store.specs.declared.store_fault.StoreFault.TheVariants.{OtherVersion}
use Rattle.register_sql.specs.Binding.{IsSettled, IsRefused, IsBoundAs, LeavesBound}
use Rattle.register_sql.specs.Posting.{IsWhole, IsReady, IsDone, LeavesWhole}
use Rattle.register_sql.specs.Queries.{IsSame}
use Rattle.register_sql.specs.Rows.{HasPart, AreRows, IsStored}
use Rattle.register_sql.specs.Stores.{in_store, counted, no_rows}
use Rattle.register_sql.specs.Tables.{hub_schema, prefix}
use Rattle.register_sql.proofs.Binds.{part_of, same_all}
use Rattle.register_sql.proofs.Contents.{same_part}

-- the promises of a store about the rows after a crash
pub record Laws (s : State) : Type 0 where
  pub settled : (db : Trees) → IsTrue s.is_open → s.may_leave db → db ≡ s.committed.trees
  pub stays : IsTrue s.is_open → s.may_leave s.committed.trees
  pub survives : HasCleanDisk s → ∥ ((db : Trees) × s.may_leave db) ∥₁

abbrev pub Holds : State → Content → Type 0
Holds s c = (db : Trees) × s.may_leave db × IsStored db c

-- an open store may hold the rows that it shows, and no others
pub shown_held : (s : State) → Laws s → IsSettled s → (c : Content)
    → IsStored s.now.trees c → Holds s c
shown_held s laws up c stored = (
  s.committed.trees,
  laws.stays up.is_open,
  subst (λ (d : Database). IsStored d.trees c) up.settled stored,
)

pub held_shown : (s : State) → Laws s → IsSettled s → (c : Content) → Holds s c
    → IsStored s.now.trees c
held_shown s laws up c held =
    subst (λ db. IsStored db c) (laws.settled held.0 up.is_open held.1
    ∙ sym (ap (λ (d : Database). d.trees) up.settled)) held.2

whole_sound : (s : State) → IsReady s → IsSound hub_schema s.now.trees
whole_sound s ready = subst (λ k. IsSound k s.now.trees) ready.whole.schema ready.whole.sound

pub open_ready : (s : State) → IsReady s → IsSettled s
open_ready s ready = record { is_open = ready.is_open; settled = ready.settled }

pub rows_held : (s : State) → Laws s → IsReady s → (c : Content) → AreRows s.now.trees c → Holds s c
rows_held s laws ready c rows =
    shown_held s laws (open_ready s ready) c
    (record { made = 6; few = omega arith; sound = whole_sound s ready; rows = rows })

pub held_rows : (s : State) → Laws s → IsReady s → (c : Content) → Holds s c → AreRows s.now.trees c
held_rows s laws ready c held =
    part_of 6 (omega arith) s.now.trees (whole_sound s ready) c
    (held_shown s laws (open_ready s ready) c held)

-- every database that a later opening may find has all six tables
pub ready_left : (s : State) → Laws s → IsReady s → (db : Trees) → s.may_leave db
    → IsSound hub_schema db
ready_left s laws ready db left =
    let is : s.now.trees ≡ db = ap (λ (d : Database). d.trees) ready.settled
    ∙ sym (laws.settled db ready.is_open left) in
    subst (IsSound hub_schema) is (whole_sound s ready)

pub no_two : (a b : ⊥) → a ≡ b
no_two a b = absurd a

-- ---- nothing is changed

pub same_comes : (old new : State) → Laws old → Laws new → (HasCleanDisk old → IsSettled old)
    → Survives old new (λ _. ⊥) → Comes (in_store old) (in_store new) AreSame
same_comes old new before after up survives = record {
  quiet = λ clean. omega (arith, survives.clean, clean);
  some = λ clean none c held.
      let early : HasCleanDisk old = omega (arith, survives.clean, clean) in
      let was = up early in
      ∥∥₁_elim (after.survives clean) no_two (λ left. elim (survives.crash clean left.0 left.1) [
        | inl had ↦
            none c (
              left.0,
              left.1,
              subst (λ db. IsStored db c)
                  (before.settled held.0 was.is_open held.1
                  ∙ sym (before.settled left.0 was.is_open had))
                  held.2,
            )
        | inr not ↦ not
      ]);
  from = λ clean d held. elim (survives.crash clean held.0 held.1) [
    | inl had ↦ (d, (held.0, had, held.2), same_all d)
    | inr not ↦ absurd not
  ];
}

pub still_comes : (s : State) → Comes (in_store s) (in_store s) AreSame
still_comes s = record {
  quiet = λ clean. clean;
  some = λ clean none. none;
  from = λ clean d held. (d, held, same_all d);
}

-- a fact read from the shown rows is true of each content that the store may hold
pub each_read : (old new : State) (Q : Content → Type 0) → Laws new
    → (HasCleanDisk new → HasCleanDisk old) → (HasCleanDisk old → IsReady old)
    → (HasCleanDisk new → IsSame old new)
    → (HasCleanDisk new → (c : Content) → AreRows old.now.trees c → Q c) → Each (in_store new) Q
each_read old new Q laws early ready same read clean c held =
    let it = same clean in
    let was = ready (early clean) in
    let up : IsReady new =
    record {
      is_open = it.is_open;
      settled = it.now ∙ was.settled ∙ sym it.committed;
      whole = subst IsWhole (sym it.now) was.whole;
    } in
    read clean c (subst (λ (d : Database). AreRows d.trees c) it.now (held_rows new laws up c held))

-- ---- bound

pub bound_has : (S : Museum) (depth : ℕ) (old new : State) → Laws new
    → (HasCleanDisk new → IsBoundAs S depth old new) → Has (in_store new) (IsBoundTo S depth)
bound_has S depth old new laws is = record {
  some = λ clean none. let it = is clean in
      none it.content.0 (rows_held new laws it.ready it.content.0 it.content.1);
  each = λ clean c held. let it = is clean in it.bound c (held_rows new laws it.ready c held);
}

pub bound_comes : (S : Museum) (depth : ℕ) (old new : State) (P : Trees → Type 0) → Laws old
    → Laws new → (HasCleanDisk old → IsSettled old) → Survives old new P
    → (HasCleanDisk new → IsBoundAs S depth old new)
    → Comes (in_store old) (in_store new) (IsBound S)
bound_comes S depth old new P before after up survives is = record {
  quiet = λ clean. omega (arith, survives.clean, clean);
  some = λ clean none. absurd (let it = is clean in none it.content.0
      (rows_held new after it.ready it.content.0 it.content.1));
  from = λ clean d held.
      let it = is clean in
      let came = it.comes d (held_rows new after it.ready d held) in (
        came.0,
        shown_held old before (up (omega (arith, survives.clean, clean))) came.0
            came.1,
        came.2,
      );
}

pub refused_comes : (S : Museum) (fault : StoreFault) (old new : State) (P : Trees → Type 0)
    → Laws old → Laws new → (HasCleanDisk old → IsSettled old) → Survives old new P
    → (HasCleanDisk new → IsRefused S old new fault)
    → Comes (in_store old) (in_store new) (IsNotBound S fault)
refused_comes S fault old new P before after up survives is = record {
  quiet = λ clean. omega (arith, survives.clean, clean);
  some = λ clean none c held.
      let it = is clean in
      let was = up (omega (arith, survives.clean, clean)) in
      none c (shown_held new after (still it.same was) c
      (subst (λ (d : Database). IsStored d.trees c) (sym it.same.now)
      (held_shown old before was c held)));
  from = λ clean d held.
      let it = is clean in
      let was = up (omega (arith, survives.clean, clean)) in
      let stored = subst (λ (k : Database). IsStored k.trees d) it.same.now
      (held_shown new after (still it.same was) d held) in
      (d, shown_held old before was d stored, (it.cause d stored, inl (same_all d)));
}
  where
    still : IsSame old new → IsSettled old → IsSettled new
    still same was =
        record { is_open = same.is_open; settled = same.now ∙ was.settled ∙ sym same.committed }

failure_cause : (S : Museum) (c : Content) (fault : StoreFault) → is_failure fault ≡ true
    → IsBindFault S c fault
failure_cause S c NoMemory is = tt
failure_cause S c Store is = tt
failure_cause S c OtherSetup is = absurd (let e : false ≡ true = is in cc)
failure_cause S c (Damaged at) is = absurd (let e : false ≡ true = is in cc)
failure_cause S c OtherVersion is = absurd (let e : false ≡ true = is in cc)

-- a statement failed
pub failed_comes : (S : Museum) (fault : StoreFault) (old new : State) → is_failure fault ≡ true
    → Laws old → Laws new → (HasCleanDisk old → IsSettled old)
    → Survives old new (LeavesBound S old)
    → Comes (in_store old) (in_store new) (IsNotBound S fault)
failed_comes S fault old new fails before after up survives = record {
  quiet = λ clean. omega (arith, survives.clean, clean);
  some = λ clean none c held.
      let was = up (omega (arith, survives.clean, clean)) in
      ∥∥₁_elim (after.survives clean) no_two (λ left. elim (survives.crash clean left.0 left.1) [
        | inl had ↦
            none c (
              left.0,
              left.1,
              subst (λ db. IsStored db c)
                  (before.settled held.0 was.is_open held.1
                  ∙ sym (before.settled left.0 was.is_open had))
                  held.2,
            )
        | inr bound ↦ none bound.content.0 (
          left.0,
          left.1,
          record { made = 6; few = omega arith; sound = bound.sound; rows = bound.content.1 },
        )
      ]);
  from = λ clean d held.
      let was = up (omega (arith, survives.clean, clean)) in
      elim (survives.crash clean held.0 held.1) [
        | inl had ↦ (d, (held.0, had, held.2), (failure_cause S d fault fails, inl (same_all d)))
        | inr bound ↦
            let came = bound.comes d (part_of 6 (omega arith) held.0 bound.sound d held.2) in (
              came.0,
              shown_held old before was came.0 came.1,
              (failure_cause S came.0 fault fails, inr (fails, came.2)),
            )
      ];
}

-- ---- changed

pub comes_weaker : {A B : Content → Content → Type 0} (old new : State)
    → ((c d : Content) → A c d → B c d) → Comes (in_store old) (in_store new) A
    → Comes (in_store old) (in_store new) B
comes_weaker old new weaker comes = record {
  quiet = comes.quiet;
  some = comes.some;
  from = λ clean d held.
      let came = comes.from clean d held in (came.0, came.1, weaker came.0 d came.2);
}

pub done_comes : (change : Content → Content) (old new : State) (P : Trees → Type 0)
    → Laws old → Laws new → (HasCleanDisk old → IsReady old)
    → (HasCleanDisk old → (c : Content) × AreRows old.now.trees c) → Survives old new P
    → (HasCleanDisk new → IsDone old new change)
    → Comes (in_store old) (in_store new) (λ c d. AreSame (change c) d)
done_comes change old new P before after ready content survives done = record {
  quiet = λ clean. omega (arith, survives.clean, clean);
  some = λ clean none. absurd (
      let early : HasCleanDisk old = omega (arith, survives.clean, clean) in
      let it = done clean in
      let had = content early in
      none (change had.0)
      (rows_held new after (now_ready it) (change had.0) (it.rows had.0 had.1)));
  from = λ clean d held.
      let early : HasCleanDisk old = omega (arith, survives.clean, clean) in
      let it = done clean in
      let had = content early in
      let rows = held_rows new after (now_ready it) d held in (
        had.0,
        rows_held old before (ready early) had.0 had.1,
        same_part 6 new.now.trees (change had.0) d (it.rows had.0 had.1) rows,
      );
}
  where
    now_ready : IsDone old new change → IsReady new
    now_ready it = record { is_open = it.is_open; settled = sym it.committed; whole = it.whole }

-- a statement failed, so the change is made or not
pub undone_comes : (change : Content → Content) (old new : State) → Laws old → Laws new
    → (HasCleanDisk old → IsReady old)
    → (HasCleanDisk old → (c : Content) × AreRows old.now.trees c)
    → Survives old new (LeavesWhole old change)
    → Comes (in_store old) (in_store new) (λ c d. AreSame c d ⊎ AreSame (change c) d)
undone_comes change old new before after ready content survives = record {
  quiet = λ clean. omega (arith, survives.clean, clean);
  some = λ clean none c held.
      let early : HasCleanDisk old = omega (arith, survives.clean, clean) in
      let was = ready early in
      let had = content early in
      ∥∥₁_elim (after.survives clean) no_two (λ left. elim (survives.crash clean left.0 left.1) [
        | inl same ↦
            none c (
              left.0,
              left.1,
              subst (λ db. IsStored db c)
                  (before.settled held.0 was.is_open held.1
                  ∙ sym (before.settled left.0 was.is_open same)) held.2,
            )
        | inr whole ↦ none (change had.0) (
          left.0,
          left.1,
          record {
            made = 6;
            few = omega arith;
            sound = whole.sound;
            rows = whole.rows had.0 had.1;
          },
        )
      ]);
  from = λ clean d held.
      let early : HasCleanDisk old = omega (arith, survives.clean, clean) in
      let had = content early in
      elim (survives.crash clean held.0 held.1) [
        | inl same ↦ (d, (held.0, same, held.2), inl (same_all d))
        | inr whole ↦ (
          had.0,
          rows_held old before (ready early) had.0 had.1,
          inr (same_part 6 held.0 (change had.0) d (whole.rows had.0 had.1)
              (part_of 6 (omega arith) held.0 whole.sound d held.2)),
        )
      ];
}

-- ---- posted

pub posted_comes : (e : Entry) (changes : Changes) (row : PostingRow) (old new : State) (P : Trees
    → Type 0) → IsPostingRow changes.entry e row → Laws old → Laws new
    → (HasCleanDisk old → IsReady old)
    → (HasCleanDisk old → (c : Content) × AreRows old.now.trees c) → Survives old new P
    → (HasCleanDisk new → IsDone old new (with_posted row e changes))
    → Comes (in_store old) (in_store new) (IsPosted e changes)
posted_comes e changes row old new P keeps before after ready content survives done =
    comes_weaker old new (λ c d same. (row, keeps, same))
    (done_comes (with_posted row e changes) old new P before after ready content survives done)

pub unposted_comes : (e : Entry) (changes : Changes) (row : PostingRow) (old new : State)
    → IsPostingRow changes.entry e row → Laws old → Laws new
    → (HasCleanDisk old → IsReady old)
    → (HasCleanDisk old → (c : Content) × AreRows old.now.trees c)
    → Survives old new (LeavesWhole old (with_posted row e changes))
    → Comes (in_store old) (in_store new) (λ c d. AreSame c d ⊎ IsPosted e changes c d)
unposted_comes e changes row old new keeps before after ready content survives =
    comes_weaker old new (λ c d either. elim either [
      | inl same ↦ inl same
      | inr posted ↦ inr (row, keeps, posted)
    ])
    (undone_comes (with_posted row e changes) old new before after ready content survives)

pub still_unposted : (e : Entry) (changes : Changes) (s : State)
    → Comes (in_store s) (in_store s) (λ c d. AreSame c d ⊎ IsPosted e changes c d)
still_unposted e changes s = record {
  quiet = λ clean. clean;
  some = λ clean none. none;
  from = λ clean d held. (d, held, inl (same_all d));
}

pub still_unbound : (S : Museum) (fault : StoreFault) (s : State) → is_failure fault ≡ true
    → Comes (in_store s) (in_store s) (IsNotBound S fault)
still_unbound S fault s fails =
    record {
      quiet = λ clean. clean;
      some = λ clean none. none;
      from = λ clean d held. (d, held, (failure_cause S d fault fails, inl (same_all d)));
    }

-- ---- the count of Store faults

pub counts : (T : Type 0) (refusals : ℕ) (fault : StoreFault)
    → CountsRefusal {T = T} refusals (counted refusals fault) (Err fault)
counts T refusals NoMemory = refl
counts T refusals Store = refl
counts T refusals OtherSetup = refl
counts T refusals (Damaged at) = refl
counts T refusals OtherVersion = refl

-- ---- a database without a table

pub no_row : {A B : Type 0} (f : A → B) (rows : List A) → IsPermutation (map f rows) [] → rows ≡ []
no_row f [] h = refl
no_row f (r ∷ rows) h = absurd (omega (arith, length_permutation _ _ h))

pub without_rows : (c : Content) → c.setup ≡ [] → c.meta ≡ [] → c.postings ≡ [] → c.spots ≡ []
    → c.lines ≡ [] → c.terms ≡ [] → c ≡ no_rows
without_rows c p q r s t u =
    let all : Content = record {
      setup = c.setup;
      meta = c.meta;
      postings = c.postings;
      spots = c.spots;
      lines = c.lines;
      terms = c.terms;
    } in
    let e : all ≡ no_rows = rw (p, q, r, s, t, u) refl in e

pub none_held : (db : Trees) → HasPart 0 db no_rows
none_held db = record {
  meta = IsPermutation-refl [];
  setup = IsPermutation-refl [];
  postings = IsPermutation-refl [];
  spots = IsPermutation-refl [];
  lines = IsPermutation-refl [];
  terms = IsPermutation-refl [];
}

pub empty_has : (s : State) → ((db : Trees) → s.may_leave db → db ≡ s.committed.trees)
    → s.may_leave s.committed.trees → s.now ≡ s.committed → IsDatabase s.now
    → s.now.schema ≡ prefix 0
    → Has (in_store s) (λ c. c ≡ no_rows)
empty_has s left stays settled sound schema =
    let there : IsSound (prefix 0) s.committed.trees =
    subst (λ (d : Database). IsSound (prefix 0) d.trees) settled
    (subst (λ k. IsSound k s.now.trees) schema sound) in
    record {
      some = λ clean none. none no_rows (
        s.committed.trees,
        stays,
        record {
          made = 0;
          few = omega arith;
          sound = there;
          rows = none_held s.committed.trees;
        },
      );
      each = λ clean c held.
          let stored : IsStored s.committed.trees c =
          subst (λ db. IsStored db c) (left held.0 held.1) held.2 in
          let part = part_of 0 (omega arith) s.committed.trees there c stored in
          without_rows c (no_row _ _ part.setup) (no_row _ _ part.meta) (no_row _ _ part.postings)
          (no_row _ _ part.spots) (no_row _ _ part.lines) (no_row _ _ part.terms);
    }
