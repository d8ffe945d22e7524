-- How the steps of a transaction go together, and how it ends.
use Rattle.std.proofs.Common.{◌≡◌, inl, ℕ, suc, ◌+◌, ◌<◌, true, false, List, [], ◌∷◌, length, drop}
use Rattle.std.proofs.Common.{get_or, Ok, Err, Result, OnOk, IsTrue, refl, sym, ap, subst, ◌∙◌}
use Rattle.std.proofs.Common.{arith}
use Rattle.std.proofs.Math.Seq.{drop-cons}
use Rattle.sqlite.proofs.Callers.{survives_begin}
use Rattle.sqlite.proofs.StateLemmas.{survives_then}
use Rattle.sqlite.specs.Effect.{Database}
use Rattle.sqlite.specs.Held.{Held, state}
use Rattle.sqlite.specs.State.{State, HasCleanDisk, Survives, KeepsCommit, KeepsCounts, Shows}
use Rattle.sqlite.specs.Store.{Ghosts}
use Rattle.sqlite.specs.Tree.{Trees}
use Rattle.sqlite.specs.declared.error.Error.{Error}
use Rattle.sqlite_catalog.specs.Listing.{IsSound}
use Rattle.register_store.specs.StoredRows.{Content}
use Rattle.register_sql.specs.Posting.{IsWhole, IsReady, Within, Turns, Makes, SoFar, IsDone}
use Rattle.register_sql.specs.Posting.{LeavesWhole, with_each}
use Rattle.register_sql.specs.Rows.{AreRows}

pub kept_then : (a b c : State) → KeepsCommit a b → KeepsCommit b c → KeepsCommit a c
kept_then a b c p q = record {
  was_open = λ up. p.was_open (q.was_open up);
  committed = λ up. q.committed up ∙ p.committed (q.was_open up);
}

-- `transaction` itself does nothing to the store
pub kept_begin : {S : Type 0} (g : Ghosts S) (old : Held S) (new : State)
    → KeepsCommit (state g (record old { in_transaction = true })) new
    → KeepsCommit (state g old) new
kept_begin g old new kept = record { was_open = kept.was_open; committed = kept.committed }

pub survives_still : (s : State) (P : Trees → Type 0) → Survives s s P
survives_still s P = record {
  clean = omega arith;
  shield = λ h. h;
  counts = omega arith;
  limit = refl;
  closes = λ _ up. inl up;
  crash = λ _ db h. inl h;
}

pub survives_on : (a b c : State) → Survives a b (λ _. ⊥) → Survives b c (λ _. ⊥)
    → Survives a c (λ _. ⊥)
survives_on a b c = survives_then a b c _ _ (λ _. ⊥) (λ _ db none. none) (λ _ db none. none)

pub kept_still : (s : State) → KeepsCommit s s
kept_still s = record { was_open = λ up. up; committed = λ _. refl }

pub on_ok : {T P Q : Type 0} (r : Result T Error) → OnOk r P → (P → Q) → OnOk r Q
on_ok (Ok x) h f = f h
on_ok (Err e) h f = tt

-- ---- two steps, and a step for each of some rows

pub makes_then : {T : Type 0} (a b c : State) (f g : Content → Content) (r : Result T Error)
    → Makes a b f → OnOk r (Makes b c g) → OnOk r (Makes a c (λ x. g (f x)))
makes_then a b c f g (Ok x) first second =
    record {
      within = second.within;
      stays = λ up. second.stays (first.stays up);
      rows = λ k rows. second.rows (f k) (first.rows k rows);
    }
makes_then a b c f g (Err e) first second = tt

pub makes_as : {T : Type 0} (a b : State) (f g : Content → Content) (r : Result T Error)
    → ((c : Content) → f c ≡ g c) → OnOk r (Makes a b f) → OnOk r (Makes a b g)
makes_as a b f g (Err e) same h = tt
makes_as a b f g (Ok x) same h =
    record {
      within = h.within;
      stays = h.stays;
      rows = λ c rows. subst (AreRows b.now.trees) (same c) (h.rows c rows);
    }

pub makes_same : (a b : State) (f g : Content → Content) → ((c : Content) → f c ≡ g c) → Makes a b f
    → Makes a b g
makes_same a b f g same h = record {
  within = h.within;
  stays = h.stays;
  rows = λ c rows. subst (AreRows b.now.trees) (same c) (h.rows c rows);
}

pub so_far_first : (s : State) (all : Content → Content) → Within s → SoFar s s all all
so_far_first s all within = record {
  within = within;
  stays = λ up. up;
  kept = kept_still s;
  rows = λ c rows. (c, rows, refl);
}

pub so_far_on : {R : Type 0} (old mid new : State) (all : Content → Content) (step : R → Content
    → Content) (left rest : List R) (row : R) → left ≡ row ∷ rest
    → SoFar old mid all (with_each step left) → KeepsCommit mid new → Makes mid new (step row)
    → SoFar old new all (with_each step rest)
so_far_on old mid new all step left rest row is far kept makes = record {
  within = makes.within;
  stays = λ up. makes.stays (far.stays up);
  kept = kept_then old mid new far.kept kept;
  rows = λ c rows. let had = far.rows c rows in
      (step row had.0, makes.rows had.0 had.1, sym (ap (λ l. with_each step l had.0) is) ∙ had.2);
}

pub so_far_last : {R : Type 0} (old new : State) (all : Content → Content) (step : R → Content
    → Content) (left : List R) → left ≡ [] → SoFar old new all (with_each step left)
    → Makes old new all
so_far_last old new all step left is far = record {
  within = far.within;
  stays = far.stays;
  rows = λ c rows. let had = far.rows c rows in
      subst (AreRows new.now.trees) (sym (ap (λ l. with_each step l had.0) is) ∙ had.2) had.1;
}

pub drop_next : {X : Type 0} (l : List X) (j : ℕ) (d : X) → j < length l
    → drop j l ≡ get_or l j d ∷ drop (j + 1) l
drop_next l j d low = let one : suc j ≡ j + 1 = omega arith in
    subst (λ k. drop j l ≡ get_or l j d ∷ drop k l) one (drop-cons l j d low)

-- ---- the end

-- the commit succeeds
pub done_by_commit : {T : Type 0} (old mid new : State) (change : Content → Content)
    (r : Result T Error) → KeepsCommit old mid → Makes old mid change
    → OnOk r (IsTrue mid.in_transaction × Shows mid new mid.now mid.now false × KeepsCounts mid new
    × (new.marks ≡ [])) → OnOk r (IsDone old new change)
done_by_commit old mid new change (Err e) kept makes ok = tt
done_by_commit old mid new change (Ok x) kept makes ok =
    let shown = ok.1 in
    record {
      was_open = kept.was_open shown.was_open;
      is_open = shown.is_open;
      whole = subst IsWhole (sym shown.now_is) (makes.within.whole shown.was_open);
      rows = subst (λ (d : Database). Turns change old.now.trees d.trees)
          (sym shown.now_is) makes.rows;
      committed = shown.committed_is ∙ sym shown.now_is;
    }

-- a crash leaves either what it could leave before, or the rows that were committed
pub survives_whole : {S : Type 0} (g : Ghosts S) (old : Held S) (mid new : State) (Posted : Trees
    → Type 0) → Survives (state g (record old { in_transaction = true })) mid (λ _. ⊥)
    → Survives mid new (λ db. db ≡ mid.now.trees) → (HasCleanDisk mid → Posted mid.now.trees)
    → Survives (state g old) new Posted
survives_whole g old mid new Posted first second done =
    survives_then (state g old) mid new _ _ Posted (λ _ db none. absurd none)
    (λ clean db is. rw is (done (omega (arith, second.clean))))
    (survives_begin g old mid _ first) second

leaves_whole : (old mid : State) (change : Content → Content) → IsReady old → Makes old mid change
    → LeavesWhole old change mid.now.trees
leaves_whole old mid change ready makes =
    let whole = makes.within.whole (makes.stays ready.is_open) in
    record {
      sound = subst (λ s. IsSound s mid.now.trees) whole.schema whole.sound;
      rows = makes.rows;
    }

pub makes_begin : {S : Type 0} (g : Ghosts S) (old : Held S) (mid : State) (change : Content
    → Content) → Makes (state g (record old { in_transaction = true })) mid change
    → Makes (state g old) mid change
makes_begin g old mid change did =
    record { within = did.within; stays = did.stays; rows = did.rows }

pub survives_makes : {S : Type 0} (g : Ghosts S) (old : Held S) (mid new : State) (change : Content
    → Content) → (HasCleanDisk (state g old) → IsReady (state g old))
    → Survives (state g (record old { in_transaction = true })) mid (λ _. ⊥)
    → Survives mid new (λ db. db ≡ mid.now.trees)
    → (HasCleanDisk mid → Makes (state g (record old { in_transaction = true })) mid change)
    → Survives (state g old) new (LeavesWhole (state g old) change)
survives_makes g old mid new change ready first second makes =
    survives_whole g old mid new (LeavesWhole (state g old) change) first second
    (λ clean. leaves_whole (state g old) mid change (ready (omega (arith, first.clean, clean)))
    (makes_begin g old mid change (makes clean)))
