-- Rows whose rowids rise have rowids that differ, and so do those of the tables that they were read
-- from.
use Rattle.std.proofs.Common.{Result, Ok, Err, OnOk, zero, ◌-◌, cond, nat_lt, ltb, ltb-true}
use Rattle.std.proofs.Common.{ltb-false, ◌≤◌, length, slice_index_or, ◌≡◌, ◌<◌, ◌+◌, ℕ, suc}
use Rattle.std.proofs.Common.{add-one, ℤ, List, [], ◌∷◌, map, Bool, true, false, IsTrue, refl, sym}
use Rattle.std.proofs.Common.{ap, subst, ◌∙◌, arith}
use Rattle.std.specs.List.{AllByRecursion, IsDistinct}
use Rattle.std.specs.Ordering.{is_eq}
use Rattle.std.specs.Cmp.{int_cmp_is}
use Rattle.std.specs.declared.cmp.Ordering.TheVariants.{Less}
use Rattle.sqlite.specs.declared.error.Error.{Error}
use Rattle.sqlite.specs.declared.types.Value.TheVariants.{Int}
use Rattle.sqlite.specs.Order.{Row}
use Rattle.sqlite.specs.Effect.{Database, IsDatabase}
use Rattle.sqlite.specs.State.{State}
use Rattle.sqlite.specs.Tree.{Trees, rowid, IsAscending}
use Rattle.std.specs.List.Sorted.{IsPermutation}
use Rattle.std.proofs.lemmas.List.Sorted.{IsPermutation-sym}
use Rattle.sqlite_value.specs.Order.{value_cmp}
use Rattle.sqlite_value.proofs.OrderLemmas.{value_cmp-Int, value_cmp_total}
use Rattle.sqlite_trees.specs.View.{is_int}
use Rattle.register_sql.specs.Rows.{Apart, same_id, had}
use Rattle.register_sql.specs.Queries.{tree_of, least_of, shown_by, shows_id, shown_in, IsApartIn}
use Rattle.register_sql.specs.Queries.{IsPart, IsSame}
use Rattle.register_sql.specs.declared.queries.Query.{Query}
use Rattle.register_sql.specs.declared.queries.Query.TheVariants.{Metas, Setups, Postings, Spots}
use Rattle.register_sql.specs.declared.queries.Query.TheVariants.{Lines, Terms, MetaIds, SetupIds}
use Rattle.register_sql.specs.declared.queries.Query.TheVariants.{PostingIds, LineIds, TermIds}
use Rattle.register_sql.proofs.Apart.{apart_moved, no_rows}
use Rattle.register_sql.specs.Rowids.{IsBelow, IsRising}

abbrev Under : Row → Row → Type 0
Under a b = value_cmp (rowid a) (rowid b) ≡ Less

under : (a b : Row) → IsBelow a b → Under a b
under a b h = rw (h.2, h.3) (value_cmp-Int h.0 h.1 ∙ sym (int_cmp_is h.0 h.1 Less h.4))

rest_rises : (x : Row) (xs : List Row) → IsRising (x ∷ xs) → IsRising xs
rest_rises x xs up k d low = rw add-one (rw add-one at (up (suc k) d (omega (arith, low))))

lower : (x y : Row) (ys : List Row) → Under x y → AllByRecursion (Under y) ys
    → AllByRecursion (Under x) ys
lower x y [] h all = tt
lower x y (z ∷ zs) h all = (
  value_cmp_total.trans (rowid x) (rowid y) (rowid z) h all.0,
  lower x y zs h all.1,
)

all_below : (x : Row) (ys : List Row) → IsRising (x ∷ ys) → IsAscending Under ys
    → AllByRecursion (Under x) ys
all_below x [] up rest = tt
all_below x (y ∷ ys) up rest = let first : Under x y = under x y (up 0 x (omega arith)) in
    (first, lower x y ys first rest.0)

all_rise : (xs : List Row) → IsRising xs → IsAscending Under xs
all_rise [] up = tt
all_rise (x ∷ xs) up = let rest = all_rise xs (rest_rises x xs up) in (all_below x xs up rest, rest)

is_number : (r : Row) (n : ℤ) → rowid r ≡ Int n → IsTrue (is_int (rowid r))
is_number r n is = subst (λ v. IsTrue (is_int v)) (sym is) refl

all_numbers : (x : Row) (n : ℤ) (xs : List Row) → rowid x ≡ Int n → IsRising (x ∷ xs)
    → AllByRecursion (λ r. IsTrue (is_int (rowid r))) (x ∷ xs)
all_numbers x n [] is up = (is_number x n is, tt)
all_numbers x n (y ∷ ys) is up = let step = up 0 x (omega arith) in
    (is_number x n is, all_numbers y step.1 ys step.3 (rest_rises x (y ∷ ys) up))

others_differ : (x : Row) (xs : List Row) → AllByRecursion (Under x) xs
    → AllByRecursion (λ r. same_id x r ≡ false) xs
others_differ x [] h = tt
others_differ x (y ∷ ys) h = (ap is_eq h.0, others_differ x ys h.1)

all_differ : (xs : List Row) → IsAscending Under xs → IsDistinct same_id xs
unfolding IsDistinct
all_differ [] up = tt
all_differ (x ∷ xs) up = (others_differ x xs up.0, all_differ xs up.1)

pub rises : (x : Row) (n : ℤ) (xs : List Row) → rowid x ≡ Int n → IsRising (x ∷ xs) → Apart (x ∷ xs)
rises x n xs is up = record {
  ints = all_numbers x n xs is up;
  differ = all_differ (x ∷ xs) (all_rise (x ∷ xs) up);
}

-- if a query returns the rowids first, its rows show that the table's rowids differ
shown_ints : (shown : Row → Row) → ((r : Row) → rowid (shown r) ≡ rowid r) → (rows : List Row)
    → AllByRecursion (λ r. IsTrue (is_int (rowid r))) (map shown rows)
    → AllByRecursion (λ r. IsTrue (is_int (rowid r))) rows
shown_ints shown first [] h = tt
shown_ints shown first (r ∷ rs) h =
    (subst (λ v. IsTrue (is_int v)) (first r) h.0, shown_ints shown first rs h.1)

shown_others : (shown : Row → Row) → ((r : Row) → rowid (shown r) ≡ rowid r)
    → (x : Row) (rows : List Row) → AllByRecursion (λ r. same_id (shown x) r ≡ false)
    (map shown rows) → AllByRecursion (λ r. same_id x r ≡ false) rows
shown_others shown first x [] h = tt
shown_others shown first x (r ∷ rs) h =
    (rw (first x, first r) at h.0, shown_others shown first x rs h.1)

shown_differ : (shown : Row → Row) → ((r : Row) → rowid (shown r) ≡ rowid r) → (rows : List Row)
    → IsDistinct same_id (map shown rows) → IsDistinct same_id rows
unfolding IsDistinct
shown_differ shown first [] h = tt
shown_differ shown first (r ∷ rs) h =
    (shown_others shown first r rs h.0, shown_differ shown first rs h.1)

pub shown_apart : (shown : Row → Row) → ((r : Row) → rowid (shown r) ≡ rowid r) → (rows : List Row)
    → Apart (map shown rows) → Apart rows
shown_apart shown first rows h =
    record {
      ints = shown_ints shown first rows h.ints;
      differ = shown_differ shown first rows h.differ;
    }

pub rises_all : (rows : List Row) (first : Row) (n : ℤ) → 1 ≤ length rows
    → (first ≡ slice_index_or rows 0 first) → rowid first ≡ Int n → IsRising rows → Apart rows
rises_all [] first n low same is up = absurd (omega (arith, low))
rises_all (x ∷ xs) first n low same is up = rises x n xs (ap rowid (sym same) ∙ is) up

pub none_apart : (rows : List Row) → length rows < 1 → Apart rows
none_apart [] low = no_rows
none_apart (x ∷ xs) low = absurd (omega (arith, low))

default_free : (rows : List Row) (i : ℕ) (d e : Row) → i < length rows
    → slice_index_or rows i d ≡ slice_index_or rows i e
default_free [] i d e low = absurd (omega (arith, low))
default_free (x ∷ xs) zero d e low = refl
default_free (x ∷ xs) (suc i) d e low = default_free xs i d e (omega (arith, low))

pub next_rises : (rows : List Row) (at : ℕ) (a b : Row) → at < length rows
    → a ≡ slice_index_or rows (at - 1) a → b ≡ slice_index_or rows at b → IsBelow a b
    → ((k : ℕ) (d : Row) → k + 1 < at
    → IsBelow (slice_index_or rows k d) (slice_index_or rows (k + 1) d))
    → (k : ℕ) (d : Row) → k + 1 < at + 1
    → IsBelow (slice_index_or rows k d) (slice_index_or rows (k + 1) d)
next_rises rows at a b inside a_is b_is last before k d low = go (ltb (k + 1) at) refl
  where
    go : (t : Bool) → ltb (k + 1) at ≡ t
        → IsBelow (slice_index_or rows k d) (slice_index_or rows (k + 1) d)
    go true is = before k d (ltb-true (k + 1) at is)
    go false is =
        let here : at ≡ k + 1 = omega (arith, low, ltb-false (k + 1) at is) in
        let there : at - 1 ≡ k = omega (arith, here) in
        let first : a ≡ slice_index_or rows k d =
        a_is ∙ ap (λ i. slice_index_or rows i a) there ∙ default_free rows k a d
        (omega (arith, here, inside)) in
        let second : b ≡ slice_index_or rows (k + 1) d =
        b_is ∙ ap (λ i. slice_index_or rows i b) here ∙ default_free rows (k + 1) b d
        (omega (arith, here, inside)) in
        subst (λ y. IsBelow (slice_index_or rows k d) y) second
        (subst (λ x. IsBelow x b) first last)

-- ---- the same for the store's queries

pub shows_first : (query : Query) → shows_id query ≡ true → (r : Row)
    → rowid (shown_by query r) ≡ rowid r
shows_first Metas is r = absurd (let e : false ≡ true = is in cc)
shows_first Setups is r = refl
shows_first Postings is r = refl
shows_first Spots is r = absurd (let e : false ≡ true = is in cc)
shows_first Lines is r = absurd (let e : false ≡ true = is in cc)
shows_first Terms is r = absurd (let e : false ≡ true = is in cc)
shows_first MetaIds is r = refl
shows_first SetupIds is r = refl
shows_first PostingIds is r = refl
shows_first LineIds is r = refl
shows_first TermIds is r = refl

pub here : (place made : ℕ) (rows : List Row) → place ≤ made → had place made rows ≡ rows
here place made rows low = go (nat_lt made place) refl
  where
    go : (b : Bool) → nat_lt made place ≡ b → cond b [] rows ≡ rows
    go true is = absurd (omega (arith, ltb-true made place is, low))
    go false is = refl

pub gone : (place made : ℕ) (rows : List Row) → made < place → had place made rows ≡ []
gone place made rows high = go (nat_lt made place) refl
  where
    go : (b : Bool) → nat_lt made place ≡ b → cond b [] rows ≡ []
    go true is = refl
    go false is = absurd (omega (arith, ltb-false made place is, high))

-- the rows that were read show that the table's rowids differ
pub apart_read : (query : Query) (made : ℕ) (db : Trees) (rows : List Row) → shows_id query ≡ true
    → least_of query ≤ made → IsPermutation (shown_in query db) rows → Apart rows
    → IsApartIn query made db
apart_read query made db rows first low same apart =
    let table = db (tree_of query) in
    let all : Apart table = shown_apart (shown_by query) (shows_first query first) table
    (apart_moved rows (shown_in query db) (IsPermutation-sym _ _ same) apart) in
    subst Apart (sym (here (least_of query) made table low)) all

-- and so do those of a missing table
pub apart_unmade : (query : Query) (made : ℕ) (db : Trees) → made < least_of query
    → IsApartIn query made db
apart_unmade query made db high =
    subst Apart (sym (gone (least_of query) made (db (tree_of query)) high)) no_rows

pub part_same : (made : ℕ) (old new : State) → IsPart made old → IsSame old new → IsPart made new
part_same made old new part same = record {
  is_open = same.is_open;
  settled = same.now ∙ part.settled ∙ sym same.committed;
  schema = ap (λ (d : Database). d.schema) same.now ∙ part.schema;
  sound = subst IsDatabase (sym same.now) part.sound;
}

pub same_then : (a b c : State) → IsSame a b → IsSame b c → IsSame a c
same_then a b c p q = record {
  was_open = p.was_open;
  is_open = q.is_open;
  now = q.now ∙ p.now;
  committed = q.committed ∙ p.committed;
}

-- ---- one table after another

pub on_same : {T : Type 0} (old mid new : State) (r : Result T Error) → IsSame old mid
    → OnOk r (IsSame mid new) → OnOk r (IsSame old new)
on_same old mid new (Ok x) p q = same_then old mid new p q
on_same old mid new (Err e) p q = tt

pub trees_same : (old mid : State) → IsSame old mid → mid.now.trees ≡ old.now.trees
trees_same old mid same = ap (λ (d : Database). d.trees) same.now
