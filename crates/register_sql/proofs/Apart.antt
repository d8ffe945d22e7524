-- Rows with different rowids, and the rest after some of them are removed.
use Rattle.std.proofs.Common.{◌≡◌, inl, inr, ℤ, List, [], ◌∷◌, map, filter, Bool, true, false, not}
use Rattle.std.proofs.Common.{◌||◌, cond, IsTrue, refl, sym, ap, subst, ◌∙◌}
use Rattle.std.specs.List.{AllByRecursion, IsDistinct, list_any}
use Rattle.std.specs.Ordering.{is_eq}
use Rattle.std.specs.declared.cmp.Ordering.{Ordering}
use Rattle.std.specs.declared.cmp.Ordering.TheVariants.{Less, Equal, Greater}
use Rattle.std.specs.List.Sorted.{IsPermutation}
use Rattle.std.proofs.lemmas.List.Sorted.{list_any-IsPermutation}
use Rattle.std.proofs.lemmas.Map.Keys.{IsDistinct-IsPermutation}
use Rattle.std.proofs.lemmas.Bool.{or_parts}
use Rattle.sqlite_rules.specs.Lists.{Has}
use Rattle.sqlite_trees.proofs.ListLemmas.{all-permutation}
use Rattle.sqlite.specs.declared.types.Value.{Value}
use Rattle.sqlite.specs.Order.{Row}
use Rattle.sqlite_value.specs.Order.{value_cmp}
use Rattle.sqlite_value.proofs.OrderLemmas.{value_cmp_total}
use Rattle.sqlite_trees.specs.View.{is_int}
use Rattle.sqlite.specs.Tree.{rowid, has_rowid, without_rowid}
use Rattle.sqlite.specs.Edit.{without_all, is_taken, id_in}
use Rattle.sqlite_rules.specs.Calls.{ids_of}
use Rattle.sqlite_rules.proofs.TableLemmas.{int_is}
use Rattle.register_sql.specs.Rows.{same_id, Apart}

mirror : (a b : Value) → is_eq (value_cmp a b) ≡ is_eq (value_cmp b a)
mirror a b = ap is_eq (value_cmp_total.antisymm a b) ∙ back (value_cmp b a)
  where
    back : (o : Ordering) → is_eq (Rattle.std.specs.Ordering.ordering_reverse o) ≡ is_eq o
    back Less = refl
    back Equal = refl
    back Greater = refl

pub apart_moved : (xs ys : List Row) → IsPermutation xs ys → Apart xs → Apart ys
apart_moved xs ys same h = record {
  ints = all-permutation _ xs ys same h.ints;
  differ = IsDistinct-IsPermutation same_id (λ a b. mirror _ _) xs ys same h.differ;
}

pub apart_more : (new : Row) (rows : List Row) → IsTrue (is_int (rowid new))
    → is_taken rows new ≡ false → Apart rows → Apart (new ∷ rows)
unfolding IsDistinct
apart_more new rows int free h =
    record { ints = (int, h.ints); differ = (others rows free, h.differ) }
  where
    others : (rs : List Row) → is_taken rs new ≡ false
        → AllByRecursion (λ r. same_id new r ≡ false) rs
    others [] free = tt
    others (r ∷ rs) free = (mirror _ _ ∙ (or_parts _ _ free).0, others rs (or_parts _ _ free).1)

all_kept : {X : Type 0} (P : X → Type 0) (p : X → Bool) (xs : List X) → AllByRecursion P xs
    → AllByRecursion P (filter p xs)
all_kept P p [] h = tt
all_kept {X} P p (x ∷ xs) h = go (p x) (all_kept P p xs h.1)
  where
    go : (b : Bool) → AllByRecursion P (filter p xs)
        → AllByRecursion P (cond b (x ∷ filter p xs) (filter p xs))
    go true more = (h.0, more)
    go false more = more

distinct_kept : (p : Row → Bool) (xs : List Row) → IsDistinct same_id xs
    → IsDistinct same_id (filter p xs)
unfolding IsDistinct
distinct_kept p [] h = tt
distinct_kept p (x ∷ xs) h = go (p x) (distinct_kept p xs h.1)
  where
    go : (b : Bool) → IsDistinct same_id (filter p xs)
        → IsDistinct same_id (cond b (x ∷ filter p xs) (filter p xs))
    go true more = (all_kept _ p xs h.0, more)
    go false more = more

pub apart_kept : (p : Row → Bool) (rows : List Row) → Apart rows → Apart (filter p rows)
apart_kept p rows h = record {
  ints = all_kept _ p rows h.ints;
  differ = distinct_kept p rows h.differ;
}

-- one rowid, one row
all_of : {X : Type 0} (P : X → Type 0) (xs : List X) (x : X) → AllByRecursion P xs → Has xs x → P x
all_of P [] x h there = absurd there
all_of P (y ∷ ys) x h (inl is) = subst P (sym is) h.0
all_of P (y ∷ ys) x h (inr more) = all_of P ys x h.1 more

one_row : (rows : List Row) → IsDistinct same_id rows → (r x : Row) → Has rows r → Has rows x
    → same_id r x ≡ true → r ≡ x
unfolding IsDistinct
one_row [] d r x a b same = absurd a
one_row (y ∷ ys) d r x (inl a) (inl b) same = a ∙ sym b
one_row (y ∷ ys) d r x (inl a) (inr b) same =
    absurd (let no : same_id y x ≡ false = all_of _ ys x d.0 b in let e : true ≡ false = sym same
    ∙ ap (λ w. same_id w x) a ∙ no in cc)
one_row (y ∷ ys) d r x (inr a) (inl b) same =
    absurd (let no : same_id y r ≡ false = all_of _ ys r d.0 a in let e : true ≡ false = sym same
    ∙ mirror _ _ ∙ ap (λ w. same_id w r) b ∙ no in cc)
one_row (y ∷ ys) d r x (inr a) (inr b) same = one_row ys d.1 r x a b same

kept_has : {X : Type 0} (p : X → Bool) (xs : List X) (x : X) → Has (filter p xs) x
    → Has xs x × (p x ≡ true)
kept_has p [] x h = absurd h
kept_has {X} p (y ∷ ys) x h = go (p y) refl (kept_has p ys x) h
  where
    go : (b : Bool) → p y ≡ b → (Has (filter p ys) x → Has ys x × (p x ≡ true))
        → Has (cond b (y ∷ filter p ys) (filter p ys)) x → Has (y ∷ ys) x × (p x ≡ true)
    go true is on (inl same) = (inl same, ap p same ∙ is)
    go true is on (inr more) = let m = on more in (inr m.0, m.1)
    go false is on more = let m = on more in (inr m.0, m.1)

has_kept : {X : Type 0} (p : X → Bool) (xs : List X) (x : X) → Has xs x → p x ≡ true
    → Has (filter p xs) x
has_kept p [] x h is = absurd h
has_kept {X} p (y ∷ ys) x (inl same) is =
    subst (λ b. Has (cond b (y ∷ filter p ys) (filter p ys)) x)
    (sym (ap p (sym same) ∙ is)) (inl same)
has_kept {X} p (y ∷ ys) x (inr more) is = go (p y) (has_kept p ys x more is)
  where
    go : (b : Bool) → Has (filter p ys) x → Has (cond b (y ∷ filter p ys) (filter p ys)) x
    go true h = inr h
    go false h = h

any_true : {X : Type 0} (q : X → Bool) (xs : List X) (x : X) → Has xs x → q x ≡ true
    → list_any q xs ≡ true
any_true q [] x h is = absurd h
any_true q (y ∷ ys) x (inl same) is = rw (ap q (sym same) ∙ is)
any_true {X} q (y ∷ ys) x (inr more) is = go (q y) (any_true q ys x more is)
  where
    go : (b : Bool) → list_any q ys ≡ true → (b || list_any q ys) ≡ true
    go true h = refl
    go false h = h

any_false : {X : Type 0} (q : X → Bool) (xs : List X) → ((x : X) → Has xs x → q x ≡ false)
    → list_any q xs ≡ false
any_false q [] none = refl
any_false q (y ∷ ys) none = rw (none y (inl refl), any_false q ys (λ x h. none x (inr h)))

-- the rows with any of these rowids are removed
abbrev gone_by : List ℤ → Row → Bool
gone_by ids r = list_any (λ id. has_rowid id r) ids

filter_all : {X : Type 0} (xs : List X) → filter (λ _. true) xs ≡ xs
filter_all [] = refl
filter_all (x ∷ xs) = ap (λ l. x ∷ l) (filter_all xs)

filter_two : {X : Type 0} (a b : X → Bool) (xs : List X)
    → filter (λ x. not (b x)) (filter (λ x. not (a x)) xs) ≡ filter (λ x. not (a x || b x)) xs
filter_two a b [] = refl
filter_two {X} a b (x ∷ xs) = go (a x) (b x) refl (filter_two a b xs)
  where
    rest : List X
    rest = filter (λ x. not (a x)) xs

    go : (c d : Bool) → b x ≡ d → filter (λ x. not (b x)) rest ≡ filter (λ x. not (a x || b x)) xs
        → filter (λ x. not (b x)) (cond (not c) (x ∷ rest) rest) ≡ cond (not (c || d))
        (x ∷ filter (λ x. not (a x || b x)) xs) (filter (λ x. not (a x || b x)) xs)
    go true d is h = h
    go false true is h = rw (is, h)
    go false false is h = rw (is, h)

without_is : (ids : List ℤ) (rows : List Row)
    → without_all rows ids ≡ filter (λ r. not (gone_by ids r)) rows
without_is [] rows = sym (filter_all rows)
without_is (id ∷ ids) rows = without_is ids (without_rowid id rows) ∙ filter_two (has_rowid id)
    (gone_by ids) rows

pub filter_same : {X : Type 0} (p q : X → Bool) (xs : List X) → ((x : X) → Has xs x → p x ≡ q x)
    → filter p xs ≡ filter q xs
filter_same p q [] h = refl
filter_same p q (x ∷ xs) h = rw (h x (inl refl), filter_same p q xs (λ y m. h y (inr m)))

has_id : (f : Row → ℤ) (rows : List Row) (r : Row) → Has rows r → Has (map f rows) (f r)
has_id f [] r h = absurd h
has_id f (y ∷ ys) r (inl is) = inl (ap f is)
has_id f (y ∷ ys) r (inr more) = inr (has_id f ys r more)

id_has : (f : Row → ℤ) (rows : List Row) (id : ℤ) → Has (map f rows) id → (x : Row) × Has rows x
    × (id ≡ f x)
id_has f [] id h = absurd h
id_has f (y ∷ ys) id (inl is) = (y, inl refl, is)
id_has f (y ∷ ys) id (inr more) = let m = id_has f ys id more in (m.0, inr m.1, m.2)

by_id : (rows : List Row) (x r : Row) → Apart rows → Has rows x
    → has_rowid (id_in (rowid x)) r ≡ same_id r x
by_id rows x r h there = ap (λ v. is_eq (value_cmp (rowid r) v))
    (sym (int_is (rowid x) (all_of (λ y. is_int (rowid y) ≡ true) rows x h.ints there)))

same_self : (v : Value) → is_eq (value_cmp v v) ≡ true
same_self v = go (value_cmp v v) (value_cmp_total.antisymm v v)
  where
    go : (o : Ordering) → o ≡ Rattle.std.specs.Ordering.ordering_reverse o → is_eq o ≡ true
    go Less e = absurd (let f = e in cc)
    go Equal e = refl
    go Greater e = absurd (let f = e in cc)

-- a row is removed if it passes the test
taken : (p : Row → Bool) (rows : List Row) → Apart rows → (r : Row) → Has rows r
    → gone_by (ids_of (filter p rows)) r ≡ p r
taken p rows h r there = go (p r) refl
  where
    go : (b : Bool) → p r ≡ b → gone_by (ids_of (filter p rows)) r ≡ b
    go true is = any_true (λ id. has_rowid id r) (ids_of (filter p rows)) (id_in (rowid r))
        (has_id (λ x. id_in (rowid x)) (filter p rows) r (has_kept p rows r there is))
        (by_id rows r r h there ∙ same_self (rowid r))
    go false is = any_false (λ id. has_rowid id r) (ids_of (filter p rows)) (λ id m.
        let it = id_has (λ x. id_in (rowid x)) (filter p rows) id m in
        let both = kept_has p rows it.0 it.1 in
        ap (λ i. has_rowid i r) it.2 ∙ by_id rows it.0 r h both.0 ∙ apart_from it.0 both.0 both.1)
      where
        apart_from : (x : Row) → Has rows x → p x ≡ true → same_id r x ≡ false
        apart_from x has passes = other (same_id r x) refl
          where
            other : (b : Bool) → same_id r x ≡ b → b ≡ false
            other true same =
                absurd (let e : true ≡ false = sym passes
                ∙ ap p (sym (one_row rows h.differ r x there has same)) ∙ is in cc)
            other false same = refl

-- Removing the rowids of the rows that pass, in any order, leaves those that don't.
pub left_over : (p : Row → Bool) (rows : List Row) (ids : List ℤ) → Apart rows
    → IsPermutation (ids_of (filter p rows)) ids
    → without_all rows ids ≡ filter (λ r. not (p r)) rows
left_over p rows ids h same =
    without_is ids rows ∙ filter_same (λ r. not (gone_by ids r)) (λ r. not (p r)) rows (λ r there.
    ap not (sym (list_any-IsPermutation (λ id. has_rowid id r) _ ids same)
    ∙ taken p rows h r there))

pub no_rows : Apart []
unfolding IsDistinct
no_rows = record { ints = tt; differ = tt }
