-- The effect of a migration's steps on the tables, one after another.
use Rattle.std.proofs.Common.{◌≡◌, ℕ, List, [], ◌∷◌, ◌++◌, map, filter, drop, reverse, codes, true}
use Rattle.std.proofs.Common.{false, Option, None, Some, Ok, Err, Result, OnOk, IsTrue, refl, sym}
use Rattle.std.proofs.Common.{ap, subst, ◌∙◌, arith, append-nil}
use Rattle.std.specs.List.Sorted.{IsPermutation}
use Rattle.std.specs.Option.{option_map_or}
use Rattle.std.proofs.lemmas.Grind.{reverse_onto}
use Rattle.std.proofs.lemmas.List.Sorted.{IsPermutation-refl}
use Rattle.posting_core.specs.declared.entry.Entry.{Entry}
use Rattle.sqlite.specs.Command.TheVariants.{Delete}
use Rattle.sqlite.specs.Effect.{Database}
use Rattle.sqlite.specs.Held.{Held, state}
use Rattle.sqlite.specs.Listing.{understood}
use Rattle.sqlite.specs.Order.{Row}
use Rattle.sqlite.specs.State.{State, Executes, ExecutesInside, KeepsCommit, KeepsCounts, Shows}
use Rattle.sqlite.specs.State.{HasCleanDisk, Survives}
use Rattle.sqlite.specs.Store.{Ghosts}
use Rattle.sqlite.specs.Term.{Term}
use Rattle.sqlite.specs.Tree.{Trees}
use Rattle.sqlite.specs.declared.error.Error.{Error}
use Rattle.sqlite.proofs.Callers.{IsPlain, command_of}
use Rattle.sqlite_catalog.specs.Listing.{IsSound}
use Rattle.sqlite_tied.specs.Compute.{everything}
use Rattle.register_store.specs.StoredRows.{Content, MetaRow, TermRow, rows_of_meta, put}
use Rattle.register_store.specs.StoredRows.{is_same_loan, term_of}
use Rattle.register_sql.specs.Changes.{Removes}
use Rattle.register_sql.specs.Making.{IsMade, Goes, Grown, AddsMeta}
use Rattle.register_sql.specs.Migrating.{days_given, migrated, lifted, Lifts, ClearsMeta}
use Rattle.register_sql.specs.Migrating.{RenewsMeta, Raises, IsLifting, IsLifted, LeavesLifted}
use Rattle.register_sql.specs.Posting.{IsWhole, Within, Makes, with_each, with_some_term}
use Rattle.register_sql.specs.Rows.{HasPart, AreRows, Apart, meta_cells}
use Rattle.register_sql.specs.Tables.{meta, hub_schema}
use Rattle.register_sql.proofs.Apart.{no_rows}
use Rattle.register_sql.proofs.Ends.{survives_whole}
use Rattle.register_sql.proofs.Removed.{removed, has_key}
use Rattle.register_sql.proofs.Texts.{deletes}

-- ---- emptying `meta`

abbrev pub delete_meta : List ℕ
delete_meta = codes "DELETE FROM meta"

abbrev no_key : List Term
no_key = []

delete_meta_is : command_of (understood hub_schema delete_meta)
    ≡ Delete 0 (record { lets = []; body = deletes 0 no_key })
unfolding understood everything
delete_meta_is = refl

delete_meta_plain : IsPlain (understood hub_schema delete_meta)
unfolding understood everything
delete_meta_plain = (refl, refl)

removes_meta : (old new : State) (count : ℕ) → old.now.schema ≡ hub_schema → Apart (old.now.trees 0)
    → Executes delete_meta [] old new (Ok count)
    → Removes 0 (has_key no_key []) old.now new.now
removes_meta old new =
    removed delete_meta [] 0 no_key meta.name meta.tree meta.columns meta.key meta.primary
    meta.uniques delete_meta_is delete_meta_plain refl (λ db. refl) old new

filter_none : {X : Type 0} (xs : List X) → filter (λ _. false) xs ≡ []
filter_none [] = refl
filter_none (x ∷ xs) = filter_none xs

pub cleared_meta : (old new : State) (given : Row) (q : Result ℕ Error) → IsMade 6 old
    → (IsTrue old.is_open → Apart (old.now.trees 0)) → ExecutesInside 0 delete_meta given old new q
    → given ≡ [] → OnOk q (Goes 6 ClearsMeta old new)
cleared_meta old new given (Err e) made apart h is = tt
cleared_meta old new given (Ok count) made apart h is =
    let up = h.1.was_open in
    let it = removes_meta old new count (made.schema up) (apart up) (rw is at h.0) in
    record {
      is = record { schema = λ _. it.schema; sound = λ _. it.sound; inside = h.1.mode };
      stays = λ _. h.1.is_open;
      rows = record {
        meta = it.rows ∙ filter_none (old.now.trees 0);
        others = record {
          setup = it.others.setup (λ e. omega arith);
          postings = it.others.postings (λ e. omega arith);
          spots = it.others.spots (λ e. omega arith);
          lines = it.others.lines (λ e. omega arith);
          terms = it.others.terms (λ e. omega arith);
        };
      };
    }

-- ---- one after another

pub renews : (rows : List MetaRow) (a b c : Trees) → ClearsMeta a b → AddsMeta rows b c
    → RenewsMeta rows a c
renews rows a b c p q = record {
  meta = subst (λ l. IsPermutation l (map (drop 1) (c 0))) (append-nil (map meta_cells rows))
      (subst (λ l. IsPermutation (map meta_cells rows ++ map (drop 1) l) (map (drop 1) (c 0)))
      p.meta q.meta);
  others = record {
    setup = q.setup ∙ p.others.setup;
    postings = q.others.postings ∙ p.others.postings;
    spots = q.others.spots ∙ p.others.spots;
    lines = q.others.lines ∙ p.others.lines;
    terms = q.others.terms ∙ p.others.terms;
  };
}

pub raises : (a b c : Trees) → Grown 5 6 a b → RenewsMeta (rows_of_meta 8) b c → Raises a c
raises a b c p q = record {
  meta = q.meta;
  setup = q.others.setup ∙ p.setup;
  postings = q.others.postings ∙ p.postings;
  spots = q.others.spots ∙ p.spots;
  lines = q.others.lines ∙ p.lines;
  terms = q.others.terms ∙ p.terms;
}

pub apart_grown : (old mid : State) → KeepsCommit old mid → Grown 5 6 old.now.trees mid.now.trees
    → (IsTrue old.is_open → Apart (old.now.trees 0)) → IsTrue mid.is_open → Apart (mid.now.trees 0)
apart_grown old mid kept grown apart up = subst Apart (sym grown.meta) (apart (kept.was_open up))

-- the rows of a store after the migration
raised_rows : (db next : Trees) → Raises db next → (c : Content) → HasPart 5 db c
    → AreRows next (record c { meta = rows_of_meta 8; terms = [] })
raised_rows db next it c held = record {
  meta = it.meta;
  setup = rw it.setup held.setup;
  postings = rw it.postings held.postings;
  spots = rw it.spots held.spots;
  lines = rw it.lines held.lines;
  terms = rw it.terms (IsPermutation-refl []);
}

pub within_raised : (old mid : State) → KeepsCommit old mid
    → (IsTrue old.is_open → Apart (old.now.trees 7)) → Goes 6 Raises old mid → Within mid
within_raised old mid kept apart went = record {
  whole = λ up. record {
    schema = went.is.schema up;
    sound = went.is.sound up;
    lines = subst Apart (sym went.rows.lines) (apart (kept.was_open up));
    terms = subst Apart (sym went.rows.terms) no_rows;
  };
  inside = went.is.inside;
}

pub lifts : {T : Type 0} (entries : List Entry) (old mid new : State) (r : Result T Error)
    → Goes 6 Raises old mid
    → OnOk r (Makes mid new (with_each (λ e. with_some_term (term_of e)) entries))
    → OnOk r (IsLifting entries old new)
lifts entries old mid new (Err e) went makes = tt
lifts entries old mid new (Ok x) went makes = record {
  within = makes.within;
  stays = λ up. makes.stays (went.stays up);
  rows = λ c held. makes.rows (record c { meta = rows_of_meta 8; terms = [] })
      (raised_rows old.now.trees mid.now.trees went.rows c held);
}

-- ---- the end

lifting_begin : {S : Type 0} (g : Ghosts S) (entries : List Entry) (old : Held S) (mid : State)
    → IsLifting entries (state g (record old { in_transaction = true })) mid
    → IsLifting entries (state g old) mid
lifting_begin g entries old mid did =
    record { within = did.within; stays = did.stays; rows = did.rows }

pub lifted_by_commit : {S T : Type 0} (g : Ghosts S) (entries : List Entry) (old : Held S)
    (mid new : State) (r : Result T Error)
    → IsLifting entries (state g (record old { in_transaction = true })) mid
    → OnOk r (IsTrue mid.in_transaction × Shows mid new mid.now mid.now false × KeepsCounts mid new
    × (new.marks ≡ [])) → OnOk r (IsLifted entries (state g old) new)
lifted_by_commit g entries old mid new (Err e) did ok = tt
lifted_by_commit g entries old mid new (Ok x) did ok =
    let shown = ok.1 in
    record {
      is_open = shown.is_open;
      whole = subst IsWhole (sym shown.now_is) (did.within.whole shown.was_open);
      rows = subst (λ (d : Database). Lifts entries (state g old).now.trees d.trees)
          (sym shown.now_is) did.rows;
      committed = shown.committed_is ∙ sym shown.now_is;
    }

leaves_lifted : (entries : List Entry) (old mid : State) → IsTrue old.is_open
    → IsLifting entries old mid → LeavesLifted entries old mid.now.trees
leaves_lifted entries old mid up did =
    let whole = did.within.whole (did.stays up) in
    record {
      sound = subst (λ s. IsSound s mid.now.trees) whole.schema whole.sound;
      rows = did.rows;
    }

pub survives_lifted : {S : Type 0} (g : Ghosts S) (entries : List Entry) (old : Held S)
    (mid new : State) → (HasCleanDisk (state g old) → IsTrue (state g old).is_open)
    → Survives (state g (record old { in_transaction = true })) mid (λ _. ⊥)
    → Survives mid new (λ db. db ≡ mid.now.trees)
    → (HasCleanDisk mid
    → IsLifting entries (state g (record old { in_transaction = true })) mid)
    → Survives (state g old) new (LeavesLifted entries (state g old))
survives_lifted g entries old mid new up first second did =
    survives_whole g old mid new (LeavesLifted entries (state g old)) first second
    (λ clean. leaves_lifted entries (state g old) mid (up (omega (arith, first.clean, clean)))
    (lifting_begin g entries old mid (did clean)))

-- ---- the last days that the entries set, one after another

-- those of these entries, newest first, after others
days_after : List Entry → List TermRow → List TermRow
days_after [] ts = ts
days_after (e ∷ P) ts = option_map_or (λ t. put is_same_loan t (days_after P ts)) (term_of e)
    (days_after P ts)

after_none : (P : List Entry) → days_after P [] ≡ days_given P
unfolding days_after
after_none [] = refl
after_none (e ∷ P) = ap (λ ts. option_map_or (λ t. put is_same_loan t ts) (term_of e) ts)
    (after_none P)

after_both : (P Q : List Entry) (ts : List TermRow)
    → days_after (P ++ Q) ts ≡ days_after P (days_after Q ts)
unfolding days_after
after_both [] Q ts = refl
after_both (e ∷ P) Q ts = ap (λ us. option_map_or (λ t. put is_same_loan t us) (term_of e) us)
    (after_both P Q ts)

one_given : (o : Option TermRow) (c : Content)
    → with_some_term o c ≡ record c
    { terms = option_map_or (λ t. put is_same_loan t c.terms) o c.terms }
one_given None c = refl
one_given (Some t) c = refl

each_given : (entries : List Entry) (c : Content)
    → with_each (λ e. with_some_term (term_of e)) entries c
    ≡ record c { terms = days_after (reverse entries) c.terms }
unfolding days_after
each_given [] c = refl
each_given (e ∷ es) c =
    let next : Content =
    record c { terms = option_map_or (λ t. put is_same_loan t c.terms) (term_of e) c.terms } in
    let joined : days_after (reverse (e ∷ es)) c.terms ≡ days_after (reverse es) next.terms =
    ap (λ P. days_after P c.terms) (reverse_onto es e []) ∙ after_both (reverse es)
    (e ∷ []) c.terms in
    ap (with_each (λ x. with_some_term (term_of x)) es) (one_given (term_of e) c) ∙ each_given es
    next ∙ ap (λ ts. let d : Content = record c { terms = ts } in d) (sym joined)

-- the change of the transaction is that of a migration
pub lifted_is : (entries : List Entry) (c : Content)
    → lifted entries c ≡ migrated (reverse entries) c
lifted_is entries c =
    let first : Content = record c { meta = rows_of_meta 8; terms = [] } in
    each_given entries first ∙ ap (λ ts. let d : Content = record c {
      meta = rows_of_meta 8;
      terms = ts;
    } in d) (after_none (reverse entries))
