-- The result of a SELECT of a table in the order of its rowids.
use Rattle.std.proofs.Common.{◌≡◌, ◌<◌, ◌+◌, ℕ, List, [], ◌∷◌, length, get_or, map, false, Ok, Err}
use Rattle.std.proofs.Common.{Result, IfOk, OnOk, Vec, arith, is_lt, refl, sym, ap, subst, ◌∙◌}
use Rattle.std.specs.List.{AllByRecursion, flat_map}
use Rattle.std.specs.List.Sorted.{IsPermutation, IsSorted}
use Rattle.std.specs.declared.alloc.Global.{Global}
use Rattle.std.proofs.lemmas.List.{get_or-map, length-map}
use Rattle.std.proofs.lemmas.List.Sorted.{IsPermutation-map}
use Rattle.sqlite.proofs.Callers.{IsPlain, command_of, reads_as, never_commits}
use Rattle.sqlite.proofs.StateLemmas.{survives_weaker}
use Rattle.sqlite.specs.Clock.{timed}
use Rattle.sqlite.specs.Command.TheVariants.{Select}
use Rattle.sqlite.specs.Listing.{understood, reads_listing}
use Rattle.sqlite.specs.Order.{Row, column}
use Rattle.sqlite.specs.Program.{overlay}
use Rattle.sqlite.specs.Query.{Query, IsAnswer, Output, output, output_cmp}
use Rattle.sqlite.specs.Schema.{Schema}
use Rattle.sqlite.specs.State.{State, HasCleanDisk, Survives, Shown, ShowsRows, CommitsShowing}
use Rattle.sqlite.specs.State.{IsUnchanged}
use Rattle.sqlite.specs.Term.{Term, col}
use Rattle.sqlite.specs.Tree.{Trees}
use Rattle.sqlite.specs.declared.error.Error.{Error}
use Rattle.sqlite.specs.declared.types.Value.TheVariants.{Null}
use Rattle.sqlite_trees.proofs.ListLemmas.{all-permutation, all-get_or}
use Rattle.sqlite_value.proofs.OrderLemmas.{then-Equal}
use Rattle.sqlite_value.specs.Order.{value_cmp}
use Rattle.register_sql.specs.Shown.{id_cmp}
use Rattle.register_sql.proofs.Removed.{map_twice}
use Rattle.register_sql.proofs.Texts.{ordered_by_rowid}

singles : {A B : Type 0} (f : A → B) (rows : List A) → flat_map (λ r. f r ∷ []) rows ≡ map f rows
singles f [] = refl
singles f (r ∷ rows) = ap (λ l. f r ∷ l) (singles f rows)

-- the columns that a query returns of one row
abbrev pub shows_of : Query → Row → Row
shows_of q r = (output q ([] ∷ r ∷ [])).1

all_answered : (t : ℕ) (project : List Term) (db : Trees) (rows : List Row)
    → IsAnswer (ordered_by_rowid t project) db [] rows
    → IsPermutation (map (shows_of (ordered_by_rowid t project)) (db t)) rows
all_answered t project db rows a =
    let q = ordered_by_rowid t project in
    let staged : a.staged ≡ map (λ r. [] ∷ r ∷ []) (db t) =
    a.grouped ∙ singles (λ r. [] ∷ r ∷ []) (db t) in
    let kept : a.kept ≡ map (output q) (map (λ r. [] ∷ r ∷ []) (db t)) =
    a.distinct ∙ ap (map (output q)) staged in
    let shows : rows ≡ map (λ (o : Output). o.1) a.ordered = a.shown in
    let all : map (λ (o : Output). o.1) a.kept ≡ map (shows_of q) (db t) =
    ap (map (λ (o : Output). o.1)) kept ∙ map_twice _ _ (map (λ r. [] ∷ r ∷ []) (db t))
    ∙ map_twice _ _ (db t) in
    rw shows (subst (λ l. IsPermutation l (map (λ (o : Output). o.1) a.ordered)) all
    (IsPermutation-map (λ (o : Output). o.1) a.kept a.ordered a.same))

abbrev IsKeyed : Output → Type 0
IsKeyed o = column o.0 0 ≡ column o.1 0

-- if the rowid is the first column, the rows come in its order
module _ (t : ℕ) (project : List Term) where
  rows_sorted : (outs : List Output) → AllByRecursion IsKeyed outs
      → IsSorted (output_cmp (ordered_by_rowid t (col 1 0 ∷ project))) outs
      → IsSorted id_cmp (map (λ o. o.1) outs)
  rows_sorted outs keyed sorted k d low next =
      let d' : Output = ([], d) in
      let len : length (map (λ (o : Output). o.1) outs) ≡ length outs =
      length-map outs (λ (o : Output). o.1) in
      let here : k < length outs = omega (arith, next, len) in
      let there : k + 1 < length outs = omega (arith, next, len) in
      let first = get_or-map (λ (o : Output). o.1) outs k d' d here in
      let second = get_or-map (λ (o : Output). o.1) outs (k + 1) d' d there in
      let plain : is_lt (value_cmp (column (get_or outs (k + 1) d').0 0)
      (column (get_or outs k d').0 0)) ≡ false = ap is_lt (sym (then-Equal _)) ∙ sorted k d'
      low there in
      rw (first, second) (subst (λ v. is_lt (value_cmp v (column (get_or outs k d').1 0)) ≡ false)
      (all-get_or IsKeyed outs (k + 1) d' keyed there)
      (subst (λ v. is_lt (value_cmp (column (get_or outs (k + 1) d').0 0) v) ≡ false)
      (all-get_or IsKeyed outs k d' keyed here) plain))

  all_keyed : (staged : List (List Row))
      → AllByRecursion IsKeyed (map (output (ordered_by_rowid t (col 1 0 ∷ project))) staged)
  all_keyed [] = tt
  all_keyed (env ∷ more) = (refl, all_keyed more)

  sorted_answer : (db : Trees) (rows : List Row)
      → IsAnswer (ordered_by_rowid t (col 1 0 ∷ project)) db [] rows → IsSorted id_cmp rows
  sorted_answer db rows a =
      let keyed = all-permutation IsKeyed _ _ a.same
      (subst (AllByRecursion IsKeyed) (sym a.distinct) (all_keyed a.staged)) in
      subst (IsSorted id_cmp) (sym a.shown) (rows_sorted a.ordered keyed a.sorted)

-- a text that lists a table of this schema
pub record IsListing (schema : Schema) (text : List ℕ) (t : ℕ) (project : List Term)
    (names : List (List ℕ)) : Type 0 where
  pub command : command_of (understood schema text)
      ≡ Select (record { lets = []; body = ordered_by_rowid t project }) names
  pub unlisted : reads_listing schema text ≡ false
  pub plain : IsPlain (understood schema text)
  -- no table of the query's own hides it
  pub bare : (db : Trees) → overlay db [] t ≡ db t

module _ (schema : Schema) (text : List ℕ) (t : ℕ) (project : List Term) (names : List (List ℕ))
    (is : IsListing schema text t project names) where
  plain_in : (s : State) → s.now.schema ≡ schema → IsPlain (understood s.now.schema text)
  plain_in s has = subst (λ k. IsPlain (understood k text)) (sym has) is.plain

  pub lists : (old new : State) (r : Result (Vec Row Global) Error) → old.now.schema ≡ schema
      → IfOk r (λ rows. Shown text [] old new rows.items)
      → IfOk r (λ rows. IsPermutation
      (map (shows_of (ordered_by_rowid t project)) (old.now.trees t)) rows.items)
  lists old new (Ok rows) has h =
      let read = reads_as text [] old new schema has _ is.command is.plain is.unlisted
      rows.items h in
      subst (λ l. IsPermutation (map (shows_of (ordered_by_rowid t project)) l) rows.items)
      (is.bare old.now.trees) (all_answered t project (overlay old.now.trees []) rows.items
      (read.answer Null))
  lists old new (Err e) has h = tt

  pub lists_same : (old new : State) (r : Result (Vec Row Global) Error) → old.now.schema ≡ schema
      → IfOk r (λ rows. Shown text [] old new rows.items) → OnOk r (IsUnchanged old new)
  unfolding Shown
  lists_same old new (Ok rows) has h =
      let none = (subst IsPlain h.1.is (plain_in old has)).0 in
      (subst (ShowsRows old new text h.0 (timed [] h.0.formats h.1.now) rows.items) none h.2).3
  lists_same old new (Err e) has h = tt

  pub lists_survives : (old new : State) → (HasCleanDisk old → old.now.schema ≡ schema)
      → Survives old new (CommitsShowing text [] old) → Survives old new (λ _. ⊥)
  lists_survives old new has h =
      survives_weaker old new _ _ (λ clean db. never_commits text [] old db
      (plain_in old (has (omega (arith, h.clean))))) h

pub lists_sorted : (schema : Schema) (text : List ℕ) (t : ℕ) (project : List Term)
    (names : List (List ℕ)) → IsListing schema text t (col 1 0 ∷ project) names
    → (old new : State) (r : Result (Vec Row Global) Error) → old.now.schema ≡ schema
    → IfOk r (λ rows. Shown text [] old new rows.items)
    → IfOk r (λ rows. IsSorted id_cmp rows.items)
lists_sorted schema text t project names is old new (Ok rows) has h =
    let read = reads_as text [] old new schema has _ is.command is.plain is.unlisted rows.items h in
    sorted_answer t project (overlay old.now.trees []) rows.items (read.answer Null)
lists_sorted schema text t project names is old new (Err e) has h = tt
