-- The rows that each DELETE of the store removes.
use Rattle.std.proofs.Common.{◌≡◌, ℕ, ℤ, List, [], ◌∷◌, map, filter, drop, Bool, true, false, not}
use Rattle.std.proofs.Common.{◌&&◌, unwrap_or, Some, Ok, refl, sym, ap, ◌∙◌}
use Rattle.std.specs.Bool.{Decides}
use Rattle.std.specs.List.Sorted.{IsPermutation}
use Rattle.std.specs.Ordering.{is_eq, int_eq}
use Rattle.std.specs.Str.{bytes_eq}
use Rattle.std.proofs.lemmas.Bool.Decides.{Decides-int_eq}
use Rattle.std.proofs.lemmas.Map.Text.{is_eq-slice_cmp}
use Rattle.std.proofs.lemmas.Slice.Eq.{bytes_eq-Decides}
use Rattle.sqlite.specs.Collation.TheVariants.{Binary}
use Rattle.sqlite.specs.Ops.{binary, truth, from_truth}
use Rattle.sqlite.specs.Order.{Row}
use Rattle.sqlite.specs.State.{State, Executes}
use Rattle.sqlite.specs.Term.{Term}
use Rattle.sqlite.specs.declared.types.Value.TheVariants.{Null, Int, Text}
use Rattle.sqlite_sql.specs.declared.ops.BinaryOp.TheVariants.{Compare}
use Rattle.sqlite_sql.specs.declared.ops.CompareOp.TheVariants.{Eq}
use Rattle.sqlite_trees.proofs.ListLemmas.{filter-map, IsPermutation-filter}
use Rattle.sqlite_value.proofs.OrderLemmas.{value_cmp-Int, value_cmp-Text}
use Rattle.sqlite_value.specs.Order.{value_cmp}
use Rattle.register_sql.specs.Changes.{Removes}
use Rattle.register_store.specs.StoredRows.{LineRow, TermRow, is_same_line, is_same_loan}
use Rattle.register_sql.specs.Rows.{line_cells, term_cells, Apart}
use Rattle.register_sql.specs.Tables.{setup, line, term, hub_schema}
use Rattle.register_sql.proofs.Apart.{filter_same}
use Rattle.register_sql.proofs.Removed.{removed, has_key}
use Rattle.register_sql.proofs.Texts.{delete_setup, setup_key, delete_setup_is, delete_setup_plain}
use Rattle.register_sql.proofs.Texts.{delete_line, line_key, delete_line_is, delete_line_plain}
use Rattle.register_sql.proofs.Texts.{delete_term, term_key, delete_term_is, delete_term_plain}

-- comparing two texts, and two numbers, as SQL does
either_way : (b : Bool) → unwrap_or (truth (from_truth (Some b))) false ≡ b
either_way true = refl
either_way false = refl

text_eq : (a l : List ℕ) → unwrap_or (truth (binary (Compare Eq Binary) (Text a) (Text l))) false
    ≡ is_eq (value_cmp (Text a) (Text l))
unfolding binary
text_eq a l = either_way _

int_eq_is : (a l : ℤ) → unwrap_or (truth (binary (Compare Eq Binary) (Int a) (Int l))) false
    ≡ is_eq (value_cmp (Int a) (Int l))
unfolding binary
int_eq_is a l = either_way _

true_last : (b : Bool) → (b && true) ≡ b
true_last true = refl
true_last false = refl

mirrored : {X : Type 0} (same : X → X → Bool) → ((a b : X) → Decides (same a b) (a ≡ b)) → (a b : X)
    → same a b ≡ same b a
mirrored {X} same exact a b = go (same a b) (same b a) (exact a b) (exact b a)
  where
    go : (p q : Bool) → Decides p (a ≡ b) → Decides q (b ≡ a) → p ≡ q
    go true true f g = refl
    go true false f g = sym (g.1 (sym (f.0 refl)))
    go false true f g = f.1 (sym (g.0 refl))
    go false false f g = refl

text_test : (a l : List ℕ) → is_eq (value_cmp (Text a) (Text l)) ≡ bytes_eq l a
text_test a l = ap is_eq (value_cmp-Text a l) ∙ is_eq-slice_cmp a l ∙ mirrored bytes_eq
    bytes_eq-Decides a l

number_test : (a l : ℤ) → is_eq (value_cmp (Int a) (Int l)) ≡ int_eq l a
number_test a l = ap is_eq (value_cmp-Int a l) ∙ mirrored int_eq Decides-int_eq a l

-- whether a row has the key, by its cells without the rowid
abbrev pub tail_key : List Term → Row → Row → Bool
tail_key key params t = has_key key params (Null ∷ t)

abbrev pub line_key_params : LineRow → Row
line_key_params r = Text r.loan ∷ Int r.object ∷ []

abbrev pub term_key_params : TermRow → Row
term_key_params r = Text r.loan ∷ []

by_line_tail : (params r : Row) → has_key line_key params r ≡ tail_key line_key params (drop 1 r)
by_line_tail params [] = refl
by_line_tail params (v ∷ r) = refl

by_term_tail : (params r : Row) → has_key term_key params r ≡ tail_key term_key params (drop 1 r)
by_term_tail params [] = refl
by_term_tail params (v ∷ r) = refl

line_test : (l k : LineRow) → tail_key line_key (line_key_params l) (line_cells k)
    ≡ is_same_line l k
line_test l k = rw (
  text_eq k.loan l.loan,
  int_eq_is k.object l.object,
  text_test k.loan l.loan,
  number_test k.object l.object,
  true_last (int_eq l.object k.object),
)

term_test : (t u : TermRow) → tail_key term_key (term_key_params t) (term_cells u)
    ≡ is_same_loan t u
term_test t u = rw (
  text_eq u.loan t.loan,
  text_test u.loan t.loan,
  true_last (bytes_eq t.loan u.loan),
)

-- removing rows from a table removes the same rows from the content
fewer : {X : Type 0} (cells : X → Row) (test : X → Bool) (goes tail : Row → Bool)
    → ((x : X) → tail (cells x) ≡ test x) → ((r : Row) → goes r ≡ tail (drop 1 r))
    → (xs : List X) (rows : List Row) → IsPermutation (map cells xs) (map (drop 1) rows)
    → IsPermutation (map cells (filter (λ x. not (test x)) xs))
    (map (drop 1) (filter (λ r. not (goes r)) rows))
fewer cells test goes tail is by xs rows same =
    let held : map cells (filter (λ x. not (test x)) xs) ≡ filter (λ t. not (tail t))
    (map cells xs) =
    ap (map cells) (filter_same (λ x. not (test x)) (λ x. not (tail (cells x))) xs
    (λ x _. ap not (sym (is x)))) ∙ sym (filter-map (λ t. not (tail t)) cells xs) in
    let left : map (drop 1) (filter (λ r. not (goes r)) rows) ≡ filter (λ t. not (tail t))
    (map (drop 1) rows) =
    ap (map (drop 1)) (filter_same (λ r. not (goes r)) (λ r. not (tail (drop 1 r))) rows
    (λ r _. ap not (by r))) ∙ sym (filter-map (λ t. not (tail t)) (drop 1) rows) in
    rw (held, left) (IsPermutation-filter (λ t. not (tail t)) _ _ same)

pub fewer_lines : (l : LineRow) (lines : List LineRow) (rows : List Row)
    → IsPermutation (map line_cells lines) (map (drop 1) rows)
    → IsPermutation (map line_cells (filter (λ k. not (is_same_line l k)) lines))
    (map (drop 1) (filter (λ r. not (has_key line_key (line_key_params l) r)) rows))
fewer_lines l = fewer line_cells (is_same_line l) (has_key line_key (line_key_params l))
    (tail_key line_key (line_key_params l)) (line_test l) (by_line_tail (line_key_params l))

pub fewer_terms : (t : TermRow) (terms : List TermRow) (rows : List Row)
    → IsPermutation (map term_cells terms) (map (drop 1) rows)
    → IsPermutation (map term_cells (filter (λ u. not (is_same_loan t u)) terms))
    (map (drop 1) (filter (λ r. not (has_key term_key (term_key_params t) r)) rows))
fewer_terms t = fewer term_cells (is_same_loan t) (has_key term_key (term_key_params t))
    (tail_key term_key (term_key_params t)) (term_test t) (by_term_tail (term_key_params t))

pub removes_line : (old new : State) (l : LineRow) (count : ℕ) → old.now.schema ≡ hub_schema
    → Apart (old.now.trees 7) → Executes delete_line (line_key_params l) old new (Ok count)
    → Removes 7 (has_key line_key (line_key_params l)) old.now new.now
removes_line old new l =
    removed delete_line (line_key_params l) 4 line_key line.name line.tree line.columns line.key
    line.primary line.uniques delete_line_is delete_line_plain refl (λ db. refl) old new

pub removes_term : (old new : State) (t : TermRow) (count : ℕ) → old.now.schema ≡ hub_schema
    → Apart (old.now.trees 9) → Executes delete_term (term_key_params t) old new (Ok count)
    → Removes 9 (has_key term_key (term_key_params t)) old.now new.now
removes_term old new t =
    removed delete_term (term_key_params t) 5 term_key term.name term.tree term.columns term.key
    term.primary term.uniques delete_term_is delete_term_plain refl (λ db. refl) old new

pub removes_setup : (old new : State) (count : ℕ) → old.now.schema ≡ hub_schema
    → Apart (old.now.trees 2) → Executes delete_setup [] old new (Ok count)
    → Removes 2 (has_key setup_key []) old.now new.now
removes_setup old new =
    removed delete_setup [] 1 setup_key setup.name setup.tree setup.columns setup.key setup.primary
    setup.uniques delete_setup_is delete_setup_plain refl (λ db. refl) old new
