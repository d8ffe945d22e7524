-- A store that has a list of entries has no wrong row.
use Rattle.std.proofs.Common.{◌≡◌, ℕ, ◌+◌, ◌<◌, ◌<ℤ◌, pos, List, [], ◌∷◌, ◌++◌, length, reverse}
use Rattle.std.proofs.Common.{sym, subst, ap, ◌∙◌, arith, Ordering, Less, All}
use Rattle.std.specs.List.{AllByRecursion}
use Rattle.std.specs.Ordering.{int_cmp}
use Rattle.std.specs.Cmp.{IsTotalOrder}
use Rattle.std.proofs.lemmas.Cmp.{int_cmp_total}
use Rattle.std.proofs.lemmas.Int.{ints}
use Rattle.std.proofs.lemmas.List.{reverse-append, reverse-reverse, length-reverse, append_assoc}
use Rattle.std.proofs.lemmas.List.Elements.{recursion_from_All}
use Rattle.std.proofs.lemmas.List.Sorted.{IsPermutation-reverse, IsPermutation-sym}
use Rattle.std.proofs.lemmas.List.Sorted.{IsPermutation-trans}
use Rattle.sqlite_trees.specs.Tree.{IsAscending}
use Rattle.sqlite_trees.proofs.ListLemmas.{all-permutation}
use Rattle.sqlite_keyed.proofs.ListLemmas.{all_weaker, ascending-append}
use Rattle.sqlite_keyed.proofs.KeyedLemmas.{Less-from_lt}
use Rattle.sqlite_keyed.proofs.SortLemmas.{sorted_unique}
use Rattle.posting_core.specs.declared.entry.Entry.{Entry}
use Rattle.register_store.specs.StoredRows.{Content, PostingRow, IsPostingRow, ArePostings, HasList}
use Rattle.register_store.specs.Registers.{IsOfStation, IsWrongRow, IsFirstWrong}
use Rattle.register_store.proofs.OneList.{as_many}

abbrev by_id : PostingRow → PostingRow → Ordering
by_id a b = int_cmp a.id b.id

by_id-total : IsTotalOrder by_id
by_id-total = record {
  antisymm = λ a b. int_cmp_total.antisymm a.id b.id;
  trans = λ a b c. int_cmp_total.trans a.id b.id c.id;
  congr = λ a b c. int_cmp_total.congr a.id b.id c.id;
}

-- the rows of entries have lower numbers than those of later ones
below : (P : List Entry) (rows : List PostingRow) (n : ℕ) → ArePostings P rows → length P < n
    → AllByRecursion (λ (r : PostingRow). r.id <ℤ pos n) rows
below [] [] n h less = tt
below [] (row ∷ rows) n h less = absurd h
below (e ∷ P) [] n h less = absurd h
below (e ∷ P) (row ∷ rows) n h less = let number = h.0.id in
    (omega (arith, ints, number), below P rows n h.1 (omega arith))

-- so they ascend, oldest first
ascending : (P : List Entry) (rows : List PostingRow) → ArePostings P rows
    → IsAscending (λ a b. by_id a b ≡ Less) (reverse rows)
ascending [] [] h = tt
ascending [] (row ∷ rows) h = absurd h
ascending (e ∷ P) [] h = absurd h
ascending (e ∷ P) (row ∷ rows) h =
    let number = h.0.id in
    subst (IsAscending (λ a b. by_id a b ≡ Less)) (sym (reverse-append (row ∷ []) rows))
    (ascending-append (λ a b. by_id a b ≡ Less) (reverse rows) (row ∷ [])
    (ascending P rows h.1) (tt, tt)
    (all-permutation (λ a. AllByRecursion (λ b. by_id a b ≡ Less) (row ∷ [])) rows (reverse rows)
    (IsPermutation-reverse rows)
    (all_weaker (λ (r : PostingRow). r.id <ℤ pos (length P + 1))
    (λ a. AllByRecursion (λ b. by_id a b ≡ Less) (row ∷ []))
    (λ a less. (Less-from_lt a.id row.id (subst (λ z. a.id <ℤ z) (sym number) less), tt)) rows
    (below P rows (length P + 1) h.1 (omega arith)))))

-- each row is that of its entry, with its number
kept : (stations at : ℕ) (later : List PostingRow) (row : PostingRow) (before : List PostingRow)
    (P : List Entry)
    → ArePostings P (later ++ row ∷ before) → AllByRecursion (IsOfStation stations) P
    → length before + 1 ≡ at → IsWrongRow stations at row → ⊥
kept stations at [] row before [] h known number wrong = absurd h
kept stations at [] row before (e ∷ P) h known number wrong =
    wrong e (subst (λ n. IsPostingRow n e row) (ap (λ n. n + 1) (as_many P before h.1) ∙ number)
    h.0) known.0
kept stations at (r ∷ later) row before [] h known number wrong = absurd h
kept stations at (r ∷ later) row before (e ∷ P) h known number wrong =
    kept stations at later row before P h.1 known.1 number wrong

pub never_wrong : (stations at : ℕ) (P : List Entry) (c : Content) → HasList P c
    → All (IsOfStation stations) P → IsFirstWrong stations at c → ⊥
never_wrong stations at P c h known fault =
    let same = IsPermutation-trans _ _ _ (IsPermutation-sym _ _ (IsPermutation-reverse h.rows))
    (IsPermutation-trans _ _ _ h.all (IsPermutation-sym _ _ fault.all)) in
    let rows : fault.rows ≡ reverse h.rows =
    sorted_unique by_id by_id-total (reverse h.rows) fault.rows (ascending P h.rows h.each) same
    fault.order in
    let split : h.rows ≡ reverse fault.first.after ++ fault.first.row ∷ reverse fault.first.before =
    sym (reverse-reverse h.rows) ∙ ap reverse (sym rows ∙ fault.first.split)
    ∙ turned fault.first.before fault.first.row fault.first.after in
    kept stations at (reverse fault.first.after) fault.first.row (reverse fault.first.before) P
    (subst (ArePostings P) split h.each) (recursion_from_All (IsOfStation stations) P known)
    (ap (λ n. n + 1) (length-reverse fault.first.before) ∙ fault.first.number) fault.first.wrong
  where
    turned : (before : List PostingRow) (row : PostingRow) (after : List PostingRow)
        → reverse (before ++ row ∷ after) ≡ reverse after ++ row ∷ reverse before
    turned before row after =
        reverse-append before (row ∷ after) ∙ ap (λ l. l ++ reverse before)
        (reverse-append (row ∷ []) after) ∙ append_assoc (reverse after) (row ∷ [])
        (reverse before)
