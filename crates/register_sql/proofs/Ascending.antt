-- Sorted rows with different rowids rise, so the rows that were read show exactly whether a table's
-- rowids differ.
use Rattle.std.proofs.Common.{Result, Ok, Err, IfOk, zero, suc, ◌-◌, ◌≤◌, length, slice_index_or}
use Rattle.std.proofs.Common.{◌≡◌, ◌<◌, ◌+◌, ℕ, List, [], ◌∷◌, map, Bool, true, false, IsTrue, refl}
use Rattle.std.proofs.Common.{sym, ap, subst, ◌∙◌, arith}
use Rattle.std.specs.Bool.{Decides}
use Rattle.std.specs.List.{AllByRecursion, IsDistinct}
use Rattle.std.specs.List.Sorted.{IsPermutation, IsSorted}
use Rattle.std.specs.Ordering.{is_eq, is_lt, ordering_reverse}
use Rattle.std.specs.declared.cmp.Ordering.{Ordering}
use Rattle.std.specs.declared.cmp.Ordering.TheVariants.{Less, Equal, Greater}
use Rattle.sqlite.specs.declared.error.Error.{Error}
use Rattle.sqlite.specs.declared.types.Value.TheVariants.{Int}
use Rattle.sqlite.specs.Edit.{id_in}
use Rattle.sqlite.specs.Order.{Row}
use Rattle.sqlite.specs.State.{State}
use Rattle.sqlite.specs.Tree.{Trees, rowid}
use Rattle.sqlite_keyed.proofs.KeyedLemmas.{lt_from_Less}
use Rattle.sqlite_rules.proofs.TableLemmas.{int_is}
use Rattle.sqlite_trees.specs.View.{is_int}
use Rattle.sqlite_value.specs.Order.{value_cmp}
use Rattle.sqlite_value.proofs.OrderLemmas.{value_cmp-Int, value_cmp_total}
use Rattle.register_sql.specs.Queries.{tree_of, least_of, shown_by, shows_id, shown_in, IsApartIn}
use Rattle.register_sql.specs.Queries.{AreApart, IsSame}
use Rattle.register_sql.specs.Rowids.{HasId, IsBelow, IsRising}
use Rattle.register_sql.specs.Rows.{Apart, HasNumber, AreNumbered, same_id}
use Rattle.register_sql.specs.Shown.{id_cmp}
use Rattle.register_sql.specs.declared.queries.Query.{Query}
use Rattle.register_sql.specs.declared.queries.Query.TheVariants.{SetupIds, PostingIds, LineIds}
use Rattle.register_sql.specs.declared.queries.Query.TheVariants.{TermIds}
use Rattle.register_sql.proofs.Apart.{apart_moved}
use Rattle.register_sql.proofs.Rising.{here, apart_read, apart_unmade, shows_first, trees_same}

pub never : {P : Type 0} → ¬ P → Decides false P
never not = ((λ f. absurd (let e : false ≡ true = f in cc)), λ p. absurd (not p))

-- of two rows whose rowids differ, the one that isn't greater is smaller
below : (a b : Row) → HasNumber a → HasNumber b → same_id a b ≡ false → is_lt (id_cmp b a) ≡ false
    → IsBelow a b
below a b one two differ up = (
  id_in (rowid a),
  id_in (rowid b),
  m,
  n,
  lt_from_Less _ _ (sym (value_cmp-Int _ _)
      ∙ subst (λ v. value_cmp v (Int (id_in (rowid b))) ≡ Less) m
      (subst (λ w. value_cmp (rowid a) w ≡ Less) n less)),
)
  where
    m : rowid a ≡ Int (id_in (rowid a))
    m = int_is (rowid a) one

    n : rowid b ≡ Int (id_in (rowid b))
    n = int_is (rowid b) two

    go : (o : Ordering) → value_cmp (rowid a) (rowid b) ≡ o → o ≡ Less
    go Less is = refl
    go Equal is = absurd (let e : true ≡ false = sym (ap is_eq is) ∙ differ in cc)
    go Greater is =
        absurd (let e : true ≡ false = sym
        (ap is_lt (value_cmp_total.antisymm (rowid b) (rowid a) ∙ ap ordering_reverse is)) ∙ up in
        cc)

    less : value_cmp (rowid a) (rowid b) ≡ Less
    less = go (value_cmp (rowid a) (rowid b)) refl

number_at : (rows : List Row) (k : ℕ) (d : Row) → AreNumbered rows → k < length rows
    → HasNumber (slice_index_or rows k d)
number_at [] k d all low = absurd (omega (arith, low))
number_at (x ∷ xs) zero d all low = all.0
number_at (x ∷ xs) (suc k) d all low = number_at xs k d all.1 (omega (arith, low))

next_differs : (rows : List Row) (k : ℕ) (d : Row) → IsDistinct same_id rows → suc k < length rows
    → same_id (slice_index_or rows k d) (slice_index_or rows (suc k) d) ≡ false
unfolding IsDistinct
next_differs [] k d all low = absurd (omega (arith, low))
next_differs (x ∷ []) k d all low = absurd (omega (arith, low))
next_differs (x ∷ y ∷ ys) zero d all low = all.0.0
next_differs (x ∷ y ∷ ys) (suc k) d all low = next_differs (y ∷ ys) k d all.1 (omega (arith, low))

pub sorted_rise : (rows : List Row) → IsSorted id_cmp rows → Apart rows → IsRising rows
sorted_rise rows up apart k d low =
    let next : suc k ≡ k + 1 = omega arith in
    below (slice_index_or rows k d) (slice_index_or rows (k + 1) d)
    (number_at rows k d apart.ints (omega (arith, low)))
    (number_at rows (k + 1) d apart.ints low)
    (subst (λ i. same_id (slice_index_or rows k d) (slice_index_or rows i d) ≡ false) next
    (next_differs rows k d apart.differ (omega (arith, low)))) (up k d (omega arith) low)

-- a row that isn't smaller than the next one
default_free : (rows : List Row) (i : ℕ) (d e : Row) → i < length rows
    → slice_index_or rows i d ≡ slice_index_or rows i e
default_free [] i d e low = absurd (omega (arith, low))
default_free (x ∷ xs) zero d e low = refl
default_free (x ∷ xs) (suc i) d e low = default_free xs i d e (omega (arith, low))

pub not_rising : (rows : List Row) (at : ℕ) (a b : Row) → 1 ≤ at → at < length rows
    → a ≡ slice_index_or rows (at - 1) a → b ≡ slice_index_or rows at b → ¬ IsBelow a b
    → ¬ IsRising rows
not_rising rows at a b some low a_is b_is other up =
    let here : at - 1 + 1 ≡ at = omega (arith, some) in
    let step : IsBelow (slice_index_or rows (at - 1) a) (slice_index_or rows at a) =
    subst (λ i. IsBelow (slice_index_or rows (at - 1) a) (slice_index_or rows i a)) here
    (up (at - 1) a (omega (arith, some, low))) in
    other (subst (λ y. IsBelow a y) (default_free rows at a b low ∙ sym b_is)
    (subst (λ x. IsBelow x (slice_index_or rows at a)) (sym a_is) step))

pub first_has_id : (rows : List Row) (first : Row) → 1 ≤ length rows
    → first ≡ slice_index_or rows 0 first → Apart rows → HasId first
first_has_id [] first low is apart = absurd (omega (arith, low))
first_has_id (x ∷ xs) first low is apart =
    subst HasId (sym is) (id_in (rowid x), int_is (rowid x) apart.ints.0)

-- ---- the same for the store's queries

ints_shown : (shown : Row → Row) → ((r : Row) → rowid (shown r) ≡ rowid r) → (rows : List Row)
    → AreNumbered rows → AreNumbered (map shown rows)
ints_shown shown first [] h = tt
ints_shown shown first (r ∷ rs) h =
    (subst (λ v. IsTrue (is_int v)) (sym (first r)) h.0, ints_shown shown first rs h.1)

others_shown : (shown : Row → Row) → ((r : Row) → rowid (shown r) ≡ rowid r)
    → (x : Row) (rows : List Row) → AllByRecursion (λ r. same_id x r ≡ false) rows
    → AllByRecursion (λ r. same_id (shown x) r ≡ false) (map shown rows)
others_shown shown first x [] h = tt
others_shown shown first x (r ∷ rs) h =
    (rw (first x, first r) h.0, others_shown shown first x rs h.1)

differ_shown : (shown : Row → Row) → ((r : Row) → rowid (shown r) ≡ rowid r) → (rows : List Row)
    → IsDistinct same_id rows → IsDistinct same_id (map shown rows)
unfolding IsDistinct
differ_shown shown first [] h = tt
differ_shown shown first (r ∷ rs) h =
    (others_shown shown first r rs h.0, differ_shown shown first rs h.1)

read_apart : (query : Query) (made : ℕ) (db : Trees) (rows : List Row) → shows_id query ≡ true
    → least_of query ≤ made → IsPermutation (shown_in query db) rows → IsApartIn query made db
    → Apart rows
read_apart query made db rows first low same apart =
    let table = db (tree_of query) in
    let all : Apart table = subst Apart (here (least_of query) made table low) apart in
    apart_moved (shown_in query db) rows same
    (record {
      ints = ints_shown (shown_by query) (shows_first query first) table all.ints;
      differ = differ_shown (shown_by query) (shows_first query first) table all.differ;
    })

pub apart_told : (query : Query) (made : ℕ) (db : Trees) (rows seen : List Row) (b : Bool)
    → seen ≡ rows → shows_id query ≡ true → least_of query ≤ made
    → IsPermutation (shown_in query db) rows → IsSorted id_cmp rows
    → (IsTrue b → Apart seen) → (IsSorted id_cmp seen → Apart seen → IsTrue b)
    → Decides b (IsApartIn query made db)
apart_told query made db rows seen b is first low same up apart only = (
  (λ told. apart_read query made db rows first low same (subst Apart is (apart told))),
  λ held. only (subst (IsSorted id_cmp) (sym is) up)
      (subst Apart (sym is) (read_apart query made db rows first low same held)),
)

pub unmade_told : (query : Query) (made : ℕ) (db : Trees) → made < least_of query
    → Decides true (IsApartIn query made db)
unmade_told query made db high = ((λ _. apart_unmade query made db high), λ _. refl)

-- ---- one table after another

pub both_apart : (first second : Query) (made : ℕ) (old mid : State) (r : Result Bool Error)
    → IsSame old mid → IsApartIn first made old.now.trees
    → IfOk r (λ b. Decides b (IsApartIn second made mid.now.trees))
    → IfOk r (λ b. Decides b (IsApartIn first made old.now.trees
    × IsApartIn second made old.now.trees))
both_apart first second made old mid (Ok b) same one two =
    let told : Decides b (IsApartIn second made old.now.trees) =
    subst (λ db. Decides b (IsApartIn second made db)) (trees_same old mid same) two in
    ((λ is. (one, told.0 is)), λ both. told.1 both.1)
both_apart first second made old mid (Err e) same one two = tt

pub all_apart : (made : ℕ) (old mid : State) (r : Result Bool Error) → IsSame old mid
    → IsApartIn SetupIds made old.now.trees × IsApartIn PostingIds made old.now.trees
    → IfOk r (λ b. Decides b (IsApartIn LineIds made mid.now.trees
    × IsApartIn TermIds made mid.now.trees))
    → IfOk r (λ b. Decides b (AreApart made old.now.trees))
all_apart made old mid (Ok b) same first last =
    let told =
    subst (λ (db : Trees). Decides b (IsApartIn LineIds made db × IsApartIn TermIds made db))
    (trees_same old mid same) last in (
      (λ is. record {
        setup = first.0;
        postings = first.1;
        lines = (told.0 is).0;
        terms = (told.0 is).1;
      }),
      λ all. told.1 (all.lines, all.terms),
    )
all_apart made old mid (Err e) same first last = tt

pub not_all : (made : ℕ) (db : Trees)
    → ¬ (IsApartIn SetupIds made db × IsApartIn PostingIds made db) → ¬ AreApart made db
not_all made db other all = other (all.setup, all.postings)
