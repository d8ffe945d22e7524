-- The effect on the tables of emptying and filling the setup and the rows about the store.
use Rattle.std.proofs.Common.{◌≡◌, ℕ, List, [], ◌∷◌, ◌++◌, map, filter, drop, true, false, Ok, Err}
use Rattle.std.proofs.Common.{Result, OnOk, IsTrue, refl, sym, ap, subst, ◌∙◌, arith, append-nil}
use Rattle.std.specs.List.Sorted.{IsPermutation}
use Rattle.std.proofs.lemmas.List.Sorted.{IsPermutation-refl, IsPermutation-sym}
use Rattle.std.proofs.lemmas.List.Sorted.{IsPermutation-trans, IsPermutation-append}
use Rattle.std.proofs.lemmas.List.Sorted.{IsPermutation-map, IsPermutation-middle}
use Rattle.std.proofs.lemmas.List.Sorted.{IsPermutation-cons}
use Rattle.sqlite.specs.Effect.{Database, IsDatabase}
use Rattle.sqlite.specs.Held.{Held, state}
use Rattle.sqlite.specs.Order.{Row}
use Rattle.sqlite.specs.State.{State, Executes, ExecutesInside, KeepsCommit, KeepsCounts, Shows}
use Rattle.sqlite.specs.State.{HasCleanDisk, Survives}
use Rattle.sqlite.specs.Store.{Ghosts}
use Rattle.sqlite.specs.Tree.{Trees}
use Rattle.sqlite.specs.declared.error.Error.{Error}
use Rattle.sqlite_catalog.specs.Listing.{IsSound}
use Rattle.register_store.specs.StoredRows.{SetupRow, MetaRow}
use Rattle.register_sql.specs.Changes.{Adds}
use Rattle.register_sql.specs.Changes as changes
use Rattle.register_sql.specs.Making.{IsMade, Goes, Grown, Spares, ClearsSetup, AddsSetup}
use Rattle.register_sql.specs.Making.{ReplacesSetup, AddsMeta, Fills, MakesWhole, SoFarSetup}
use Rattle.register_sql.specs.Making.{IsMadeWhole, LeavesMade}
use Rattle.register_sql.specs.Rows.{setup_cells, meta_cells, had, Apart}
use Rattle.register_sql.specs.Tables.{hub_schema}
use Rattle.register_sql.proofs.Deletes.{removes_setup}
use Rattle.register_sql.proofs.Ends.{on_ok, survives_whole}
use Rattle.register_sql.proofs.Inserts.{adds_meta, adds_setup, meta_params, setup_params}
use Rattle.register_sql.proofs.Texts.{insert_meta, insert_setup, delete_setup}

-- a statement that succeeds keeps the transaction going over all tables
module _ (text : List ℕ) (given params : Row) (Step : Trees → Trees → Type 0) (old new : State)
    (made : IsMade 6 old) (is : given ≡ params)
    (step : (count : ℕ) → IsTrue old.is_open → Executes text params old new (Ok count)
    → (new.now.schema ≡ hub_schema) × IsDatabase new.now
    × Step old.now.trees new.now.trees) where
  goes : (q : Result ℕ Error) → ExecutesInside 0 text given old new q → OnOk q (Goes 6 Step old new)
  goes (Err e) h = tt
  goes (Ok count) h =
      let done = step count h.1.was_open (rw is at h.0) in
      record {
        is = record { schema = λ _. done.0; sound = λ _. done.1; inside = h.1.mode };
        stays = λ _. h.1.is_open;
        rows = done.2;
      }

spared : (t : ℕ) (db next : Trees) → (3 ≡ t → ⊥) → (5 ≡ t → ⊥) → (7 ≡ t → ⊥) → (9 ≡ t → ⊥)
    → changes.Spares t db next → Spares db next
spared t db next a b c d same =
    record {
      postings = same.postings a;
      spots = same.spots b;
      lines = same.lines c;
      terms = same.terms d;
    }

pub added_meta : (old new : State) (r : MetaRow) (given : Row) (q : Result ℕ Error) → IsMade 6 old
    → ExecutesInside 0 insert_meta given old new q → given ≡ meta_params r
    → OnOk q (Goes 6 (AddsMeta (r ∷ [])) old new)
added_meta old new r given q made h is =
    goes insert_meta given (meta_params r) (AddsMeta (r ∷ [])) old new made is (λ count up ran.
    let it = adds_meta old new r count (made.schema up) ran in (
      it.schema,
      it.sound,
      record {
        meta = IsPermutation-map (drop 1) _ _ it.rows;
        setup = it.others.setup (λ e. omega arith);
        others = spared 0 old.now.trees new.now.trees (λ e. omega arith) (λ e. omega arith)
            (λ e. omega arith) (λ e. omega arith) it.others;
      },
    )) q h

pub added_setup : (old new : State) (r : SetupRow) (given : Row) (q : Result ℕ Error) → IsMade 6 old
    → ExecutesInside 0 insert_setup given old new q → given ≡ setup_params r
    → OnOk q (Goes 6 (AddsSetup (r ∷ [])) old new)
added_setup old new r given q made h is =
    goes insert_setup given (setup_params r) (AddsSetup (r ∷ [])) old new made is (λ count up ran.
    let it = adds_setup old new r count (made.schema up) ran in (
      it.schema,
      it.sound,
      record {
        meta = it.others.meta (λ e. omega arith);
        setup = it.rows;
        others = spared 2 old.now.trees new.now.trees (λ e. omega arith) (λ e. omega arith)
            (λ e. omega arith) (λ e. omega arith) it.others;
      },
    )) q h

filter_none : {X : Type 0} (xs : List X) → filter (λ _. false) xs ≡ []
filter_none [] = refl
filter_none (x ∷ xs) = filter_none xs

pub cleared_setup : (old new : State) (given : Row) (q : Result ℕ Error) → IsMade 6 old
    → (IsTrue old.is_open → Apart (old.now.trees 2)) → ExecutesInside 0 delete_setup given old new q
    → given ≡ [] → OnOk q (Goes 6 ClearsSetup old new)
cleared_setup old new given q made apart h is =
    goes delete_setup given [] ClearsSetup old new made is (λ count up ran.
    let it = removes_setup old new count (made.schema up) (apart up) ran in (
      it.schema,
      it.sound,
      record {
        meta = it.others.meta (λ e. omega arith);
        setup = it.rows ∙ filter_none (old.now.trees 2);
        others = spared 2 old.now.trees new.now.trees (λ e. omega arith) (λ e. omega arith)
            (λ e. omega arith) (λ e. omega arith) it.others;
      },
    )) q h

-- ---- one after another

pub goes_then : {T : Type 0} (j k : ℕ) (First Next Both : Trees → Trees → Type 0) (a b c : State)
    (r : Result T Error) → ((x y z : Trees) → First x y → Next y z → Both x z)
    → Goes j First a b → OnOk r (Goes k Next b c) → OnOk r (Goes k Both a c)
goes_then j k First Next Both a b c r joined p next = on_ok r next (λ q.
    record {
      is = q.is;
      stays = λ up. q.stays (p.stays up);
      rows = joined a.now.trees b.now.trees c.now.trees p.rows q.rows;
    })

spares_then : (a b c : Trees) → Spares a b → Spares b c → Spares a c
spares_then a b c p q = record {
  postings = q.postings ∙ p.postings;
  spots = q.spots ∙ p.spots;
  lines = q.lines ∙ p.lines;
  terms = q.terms ∙ p.terms;
}

none_added : (db : Trees) → AddsSetup [] db db
none_added db = record {
  meta = refl;
  setup = IsPermutation-refl (db 2);
  others = record { postings = refl; spots = refl; lines = refl; terms = refl };
}

one_more : (r : SetupRow) (rest : List SetupRow) (a b c : Trees) → AddsSetup (r ∷ []) a b
    → AddsSetup rest b c → AddsSetup (r ∷ rest) a c
one_more r rest a b c p q = record {
  meta = q.meta ∙ p.meta;
  setup = IsPermutation-trans _ (map setup_cells rest ++ setup_cells r ∷ a 2) _
      (IsPermutation-sym _ _ (IsPermutation-middle (map setup_cells rest) (setup_cells r) (a 2)))
      (IsPermutation-trans _ (map setup_cells rest ++ b 2) _
      (IsPermutation-append _ _ _ _ (IsPermutation-refl (map setup_cells rest))
      p.setup) q.setup);
  others = spares_then a b c p.others q.others;
}

pub so_far_first : (s : State) (all : List SetupRow) → IsMade 6 s → SoFarSetup s s all all
so_far_first s all is = record { is = is; stays = λ up. up; rows = λ end adds. adds }

pub so_far_on : (old mid new : State) (all left rest : List SetupRow) (r : SetupRow)
    → left ≡ r ∷ rest → SoFarSetup old mid all left → Goes 6 (AddsSetup (r ∷ [])) mid new
    → SoFarSetup old new all rest
so_far_on old mid new all left rest r is far went = record {
  is = went.is;
  stays = λ up. went.stays (far.stays up);
  rows = λ end adds. far.rows end
      (subst (λ l. AddsSetup l mid.now.trees end) (sym is)
      (one_more r rest mid.now.trees new.now.trees end went.rows adds));
}

pub so_far_last : (old new : State) (all left : List SetupRow) → left ≡ []
    → SoFarSetup old new all left → Goes 6 (AddsSetup all) old new
so_far_last old new all left is far =
    record {
      is = far.is;
      stays = far.stays;
      rows = far.rows new.now.trees (subst (λ l. AddsSetup l new.now.trees new.now.trees) (sym is)
          (none_added new.now.trees));
    }

pub two_metas : (v d : MetaRow) (a b c : Trees) → AddsMeta (d ∷ []) a b → AddsMeta (v ∷ []) b c
    → AddsMeta (v ∷ d ∷ []) a c
two_metas v d a b c p q = record {
  meta = IsPermutation-trans _ (meta_cells v ∷ map (drop 1) (b 0)) _
      (IsPermutation-cons (meta_cells v) _ _ p.meta) q.meta;
  setup = q.setup ∙ p.setup;
  others = spares_then a b c p.others q.others;
}

pub replaces : (s : List SetupRow) (a b c : Trees) → ClearsSetup a b → AddsSetup s b c
    → ReplacesSetup s a c
replaces s a b c p q = record {
  meta = q.meta ∙ p.meta;
  setup = subst (λ l. IsPermutation l (c 2)) (append-nil (map setup_cells s))
      (subst (λ l. IsPermutation (map setup_cells s ++ l) (c 2)) p.setup q.setup);
  others = spares_then a b c p.others q.others;
}

pub fills : (s : List SetupRow) (m : List MetaRow) (a b c : Trees) → ReplacesSetup s a b
    → AddsMeta m b c → Fills s m a c
fills s m a b c p q = record {
  meta = subst (λ l. IsPermutation (map meta_cells m ++ map (drop 1) l) (map (drop 1) (c 0)))
      p.meta q.meta;
  setup_is = subst (IsPermutation (map setup_cells s)) (sym q.setup) p.setup;
  others = spares_then a b c p.others q.others;
}

pub whole : (made : ℕ) (s : List SetupRow) (m : List MetaRow) (a b c : Trees) → Grown made 6 a b
    → Fills s m b c → MakesWhole made s m a c
whole made s m a b c p q = record {
  meta = subst (λ l. IsPermutation (map meta_cells m ++ map (drop 1) l) (map (drop 1) (c 0)))
      p.meta q.meta;
  setup_is = q.setup_is;
  postings = q.others.postings ∙ p.postings;
  spots = q.others.spots ∙ p.spots;
  lines = q.others.lines ∙ p.lines;
  terms = q.others.terms ∙ p.terms;
}

pub apart_on : (made : ℕ) (old mid : State) → KeepsCommit old mid
    → Grown made 6 old.now.trees mid.now.trees
    → (IsTrue old.is_open → Apart (had 2 made (old.now.trees 2)))
    → IsTrue mid.is_open → Apart (mid.now.trees 2)
apart_on made old mid kept grown apart up = subst Apart (sym grown.setup) (apart (kept.was_open up))

-- ---- the end

pub goes_begin : {S : Type 0} (g : Ghosts S) (old : Held S) (mid : State) (Step : Trees → Trees
    → Type 0) → Goes 6 Step (state g (record old { in_transaction = true })) mid
    → Goes 6 Step (state g old) mid
goes_begin g old mid Step went = record { is = went.is; stays = went.stays; rows = went.rows }

pub made_by_commit : {T : Type 0} (old mid new : State) (made : ℕ) (s : List SetupRow)
    (m : List MetaRow) (r : Result T Error) → Goes 6 (MakesWhole made s m) old mid
    → OnOk r (IsTrue mid.in_transaction × Shows mid new mid.now mid.now false × KeepsCounts mid new
    × (new.marks ≡ [])) → OnOk r (IsMadeWhole made s m old new)
made_by_commit old mid new made s m (Err e) went ok = tt
made_by_commit old mid new made s m (Ok x) went ok =
    let shown = ok.1 in
    record {
      is_open = shown.is_open;
      schema = ap (λ (d : Database). d.schema) shown.now_is ∙ went.is.schema shown.was_open;
      sound = subst IsDatabase (sym shown.now_is) (went.is.sound shown.was_open);
      rows = subst (λ (d : Database). MakesWhole made s m old.now.trees d.trees)
          (sym shown.now_is) went.rows;
      committed = shown.committed_is ∙ sym shown.now_is;
    }

leaves_made : (old mid : State) (made : ℕ) (s : List SetupRow) (m : List MetaRow)
    → IsTrue old.is_open → Goes 6 (MakesWhole made s m) old mid
    → LeavesMade made s m old mid.now.trees
leaves_made old mid made s m up went =
    let still = went.stays up in
    record {
      sound = subst (λ k. IsSound k mid.now.trees) (went.is.schema still)
          (went.is.sound still);
      rows = went.rows;
    }

pub survives_made : {S : Type 0} (g : Ghosts S) (old : Held S) (mid new : State) (made : ℕ)
    (s : List SetupRow) (m : List MetaRow)
    → (HasCleanDisk (state g old) → IsTrue (state g old).is_open)
    → Survives (state g (record old { in_transaction = true })) mid (λ _. ⊥)
    → Survives mid new (λ db. db ≡ mid.now.trees)
    → (HasCleanDisk mid → Goes 6 (MakesWhole made s m)
    (state g (record old { in_transaction = true })) mid)
    → Survives (state g old) new (LeavesMade made s m (state g old))
survives_made g old mid new made s m up first second went =
    survives_whole g old mid new (LeavesMade made s m (state g old)) first second
    (λ clean. leaves_made (state g old) mid made s m (up (omega (arith, first.clean, clean)))
    (goes_begin g old mid _ (went clean)))
