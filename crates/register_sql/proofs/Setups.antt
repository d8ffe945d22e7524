-- The rows of a setup, in the order of their numbers.
use Rattle.std.proofs.Common.{◌≡◌, ◌≢◌, ◌<◌, ◌≤◌, ◌+◌, ◌<ℤ◌, ℕ, zero, suc, pos, List, [], ◌∷◌, ◌++◌}
use Rattle.std.proofs.Common.{length, map, reverse, take, get_or, Bool, true, false, refl, sym, ap}
use Rattle.std.proofs.Common.{subst, ◌∙◌, arith, lt→ltb, append-nil}
use Rattle.std.specs.Bool.{Decides}
use Rattle.std.specs.Prelude.{◌↔◌}
use Rattle.std.specs.Cmp.{int_cmp_is}
use Rattle.std.specs.List.{AllByRecursion}
use Rattle.std.specs.List.Sorted.{IsPermutation, IsSorted}
use Rattle.std.specs.declared.cmp.Ordering.TheVariants.{Less}
use Rattle.std.proofs.lemmas.Cmp.{on_total}
use Rattle.std.proofs.lemmas.Grind.{reverse_onto}
use Rattle.std.proofs.lemmas.List.{length-reverse, length-take-le, map-append}
use Rattle.std.proofs.lemmas.List.Sorted.{IsPermutation-refl, length_permutation, IsPermutation-sym}
use Rattle.std.proofs.lemmas.List.Sorted.{IsPermutation-trans, IsPermutation-middle}
use Rattle.std.proofs.lemmas.List.Sorted.{IsPermutation-cons}
use Rattle.sqlite.specs.Order.{Row, column}
use Rattle.sqlite.specs.Tree.{Trees, IsAscending}
use Rattle.sqlite_keyed.proofs.SortLemmas.{sorted_unique}
use Rattle.sqlite_value.proofs.OrderLemmas.{value_cmp-Int, value_cmp_total}
use Rattle.register_store.proofs.Lists.{taken_next}
use Rattle.register_store.specs.StoredRows.{SetupRow, numbered}
use Rattle.register_sql.specs.Making.{setup_from}
use Rattle.register_sql.specs.Queries.{shown_in}
use Rattle.register_sql.specs.Says.{setup_rows_shown, setup_in}
use Rattle.register_sql.specs.Shown.{shown_setup, setup_shown, id_cmp}
use Rattle.register_sql.specs.declared.queries.Query.TheVariants.{Setups}
use Rattle.register_sql.proofs.Rising.{here, gone}

above : (k n : ℕ) (texts : List (List ℕ)) (first : Row) (text : List ℕ) → k < n
    → first ≡ setup_shown (record { id = pos k; text = text })
    → AllByRecursion (λ r. id_cmp first r ≡ Less) (map setup_shown (setup_from n texts))
above k n [] first text low is = tt
above k n (t ∷ texts) first text low is =
    let less : pos k <ℤ pos n = record { lt = lt→ltb k n low } in (
      ap (λ f. id_cmp f (setup_shown (record { id = pos n; text = t }))) is ∙ value_cmp-Int (pos k)
          (pos n) ∙ sym (int_cmp_is (pos k) (pos n) Less less),
      above k (n + 1) texts first text (omega (arith, low)) is,
    )

-- their numbers rise
rising : (n : ℕ) (texts : List (List ℕ))
    → IsAscending (λ a b. id_cmp a b ≡ Less) (map setup_shown (setup_from n texts))
rising n [] = tt
rising n (t ∷ texts) = (above n (n + 1) texts _ t (omega arith) refl, rising (n + 1) texts)

-- so rows read in their order are these, or the table has others
pub rows_told : (texts : List (List ℕ)) (db : Trees) (rows : List Row)
    → IsPermutation (shown_in Setups db) rows → IsSorted id_cmp rows
    → (rows ≡ setup_rows_shown texts) ↔ IsPermutation (setup_rows_shown texts) (shown_in Setups db)
rows_told texts db rows read sorted = (
  λ are. subst (λ l. IsPermutation l (shown_in Setups db)) are (IsPermutation-sym _ _ read),
  λ alike. sorted_unique id_cmp (on_total (λ (r : Row). column r 0) value_cmp_total)
      (setup_rows_shown texts) rows (rising 1 texts) (IsPermutation-trans _ _ _ alike read) sorted,
)

pub setup_told : (same : Bool) (texts : List (List ℕ)) (db : Trees) (rows : List Row)
    → Decides same (rows ≡ setup_rows_shown texts) → IsPermutation (shown_in Setups db) rows
    → IsSorted id_cmp rows
    → Decides same (IsPermutation (setup_rows_shown texts) (shown_in Setups db))
setup_told same texts db rows told read sorted =
    let to = rows_told texts db rows read sorted in
    (λ yes. to.0 (told.0 yes), λ alike. told.1 (to.1 alike))

-- ... in a store of the first `made` tables
pub setup_part : (same : Bool) (texts : List (List ℕ)) (made : ℕ) (db : Trees) → 2 ≤ made
    → Decides same (IsPermutation (setup_rows_shown texts) (shown_in Setups db))
    → Decides same (IsPermutation (setup_rows_shown texts) (setup_in made db))
setup_part same texts made db low told =
    subst (λ l. Decides same (IsPermutation (setup_rows_shown texts) (map shown_setup l)))
    (sym (here 2 made (db 2) low)) told

pub setup_gone : (same : Bool) (texts : List (List ℕ)) (made : ℕ) (db : Trees) → made < 2
    → Decides same ([] ≡ setup_rows_shown texts)
    → Decides same (IsPermutation (setup_rows_shown texts) (setup_in made db))
setup_gone same texts made db high told =
    subst (λ l. Decides same (IsPermutation (setup_rows_shown texts) (map shown_setup l)))
    (sym (gone 2 made (db 2) high))
    ((
      λ yes. subst (λ l. IsPermutation l []) (told.0 yes) (IsPermutation-refl []),
      λ alike. told.1 (empty (setup_rows_shown texts) alike),
    ))
  where
    empty : (rows : List Row) → IsPermutation rows [] → [] ≡ rows
    empty [] h = refl
    empty (r ∷ rows) h = absurd (omega (arith, length_permutation _ _ h))

-- ---- row by row

from_end : (k : ℕ) (texts : List (List ℕ)) (text : List ℕ)
    → setup_from k (texts ++ text ∷ []) ≡ setup_from k texts
    ++ record { id = pos (k + length texts); text = text } ∷ []
from_end k [] text = let e : k + 0 ≡ k = omega arith in
    ap (λ n. let r : SetupRow = record { id = pos n; text = text } in r ∷ []) (sym e)
from_end k (t ∷ texts) text =
    let e : k + 1 + length texts ≡ k + length (t ∷ texts) = omega arith in
    ap (λ l. record { id = pos k; text = t } ∷ l)
    (from_end (k + 1) texts text ∙ ap
    (λ n. setup_from (k + 1) texts ++ record { id = pos n; text = text } ∷ []) e)

pub got_from : (k : ℕ) (texts : List (List ℕ)) (i : ℕ) (d : Row) (t : List ℕ) → i < length texts
    → get_or (map setup_shown (setup_from k texts)) i d ≡ setup_shown
    (record { id = pos (k + i); text = get_or texts i t })
got_from k [] i d t low = absurd (omega (arith, low))
got_from k (x ∷ texts) zero d t low = let e : k ≡ k + 0 = omega arith in
    ap (λ n. setup_shown (record { id = pos n; text = x })) e
got_from k (x ∷ texts) (suc i) d t low = let e : k + 1 + i ≡ k + suc i = omega arith in
    got_from (k + 1) texts i d t (omega (arith, low))
    ∙ ap (λ n. setup_shown (record { id = pos n; text = get_or texts i t })) e

pub shown_length : (k : ℕ) (texts : List (List ℕ))
    → length (map setup_shown (setup_from k texts)) ≡ length texts
shown_length k [] = refl
shown_length k (x ∷ texts) = ap suc (shown_length (k + 1) texts)

pub not_as_many : (rows : List Row) (texts : List (List ℕ)) → length rows ≢ length texts
    → Decides false (rows ≡ setup_rows_shown texts)
not_as_many rows texts other = (
  (λ no. absurd (let e : false ≡ true = no in cc)),
  λ same. absurd (other (ap length same ∙ shown_length 1 texts)),
)

pub not_there : (rows : List Row) (texts : List (List ℕ)) (i : ℕ) (row : Row) (text : List ℕ)
    (same : Bool) → i < length texts → row ≡ get_or rows i row → text ≡ get_or texts i text
    → Decides same (row ≡ setup_shown (record { id = pos (i + 1); text = text })) → same ≡ false
    → Decides false (rows ≡ setup_rows_shown texts)
not_there rows texts i row text same low is text_is told unfit = (
  (λ f. absurd (let e : false ≡ true = f in cc)),
  λ all.
      let one : 1 + i ≡ i + 1 = omega arith in
      let here : row ≡ setup_shown (record { id = pos (i + 1); text = text }) =
      is ∙ ap (λ l. get_or l i row) all ∙ got_from 1 texts i row text low
      ∙ ap (λ n. setup_shown (record { id = pos n; text = get_or texts i text })) one
      ∙ ap (λ t. setup_shown (record { id = pos (i + 1); text = t })) (sym text_is) in
      sym unfit ∙ told.1 here,
)

pub one_further : (rows : List Row) (texts : List (List ℕ)) (i : ℕ) (row : Row) (text : List ℕ)
    → i < length rows → i < length texts → row ≡ get_or rows i row → text ≡ get_or texts i text
    → row ≡ setup_shown (record { id = pos (i + 1); text = text })
    → take i rows ≡ setup_rows_shown (take i texts)
    → take (i + 1) rows ≡ setup_rows_shown (take (i + 1) texts)
one_further rows texts i row text low less is text_is here before =
    let many : 1 + length (take i texts) ≡ i + 1 =
    omega (arith, length-take-le i texts (omega arith)) in
    let last : map setup_shown (setup_from 1 (take i texts ++ text ∷ [])) ≡ setup_rows_shown
    (take i texts) ++ setup_shown (record { id = pos (1 + length (take i texts)); text = text })
    ∷ [] =
    ap (map setup_shown) (from_end 1 (take i texts) text) ∙ map-append setup_shown
    (setup_from 1 (take i texts)) _ in
    taken_next rows i row low is ∙ ap (λ l. l ++ row ∷ []) before
    ∙ ap (λ r. setup_rows_shown (take i texts) ++ r ∷ [])
    (here ∙ ap (λ n. setup_shown (record { id = pos n; text = text })) (sym many)) ∙ sym last
    ∙ ap setup_rows_shown (sym (taken_next texts i text less text_is))

-- ---- the same rows as a register numbers them, last first

pub numbered_are : (texts : List (List ℕ))
    → IsPermutation (numbered texts) (setup_from 1 (reverse texts))
numbered_are [] = IsPermutation-refl {X = SetupRow} []
numbered_are (text ∷ texts) =
    let last : SetupRow = record { id = pos (length texts + 1); text = text } in
    let few : 1 + length (reverse texts) ≡ length texts + 1 = omega (arith, length-reverse texts) in
    let split : setup_from 1 (reverse (text ∷ texts)) ≡ setup_from 1 (reverse texts) ++ last ∷ [] =
    ap (setup_from 1) (reverse_onto texts text []) ∙ from_end 1 (reverse texts) text
    ∙ ap (λ n. setup_from 1 (reverse texts) ++ record { id = pos n; text = text } ∷ []) few in
    let moved : IsPermutation (last ∷ setup_from 1 (reverse texts))
    (setup_from 1 (reverse texts) ++ last ∷ []) =
    IsPermutation-sym _ _
    (subst (λ l. IsPermutation (setup_from 1 (reverse texts) ++ last ∷ []) (last ∷ l))
    (append-nil (setup_from 1 (reverse texts)))
    (IsPermutation-middle (setup_from 1 (reverse texts)) last [])) in
    subst (IsPermutation (last ∷ numbered texts)) (sym split)
    (IsPermutation-trans _ _ _ (IsPermutation-cons last _ _ (numbered_are texts)) moved)
