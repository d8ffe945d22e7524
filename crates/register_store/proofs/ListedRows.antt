-- Rows and entries, one after another.
use Rattle.std.proofs.Common.{◌≡◌, ℕ, ◌+◌, ◌<◌, ◌≤◌, pos, false, List, [], ◌∷◌, ◌++◌, length, map}
use Rattle.std.proofs.Common.{reverse, take, get_or, sym, subst, ◌∙◌, arith, All}
use Rattle.std.specs.List.Sorted.{IsNonDecreasingBy, IsSortedByKey}
use Rattle.std.specs.Ordering.{int_cmp, is_lt}
use Rattle.std.proofs.lemmas.List.{reverse-append, length-reverse, length-take-le, length-map}
use Rattle.std.proofs.lemmas.List.{get_or-map}
use Rattle.std.proofs.lemmas.List.Elements.{All-append, All-cons, All-nil}
use Rattle.std.proofs.lemmas.Int.{ints}
use Rattle.posting_core.specs.declared.entry.Entry.{Entry}
use Rattle.register_store.specs.declared.kept_entry.KeptEntry.{KeptEntry}
use Rattle.register_store.specs.Plain.{kept_row}
use Rattle.register_store.specs.StoredRows.{PostingRow, IsPostingRow, ArePostings}
use Rattle.register_store.proofs.Lists.{taken_next}
use Rattle.register_store.proofs.OneList.{as_many}

pub taken_length : {X : Type 0} (xs : List X) (i : ℕ) → i < length xs → length (take i xs) ≡ i
taken_length xs i less = length-take-le i xs (omega arith)

-- one more entry, and its row
pub next_row : (entries more : List Entry) (rows : List KeptEntry) (i : ℕ) (e : Entry)
    (row : KeptEntry) → i < length rows → row ≡ get_or rows i row → more ≡ entries ++ e ∷ []
    → IsPostingRow (i + 1) e (kept_row row)
    → ArePostings (reverse entries) (map kept_row (reverse (take i rows)))
    → ArePostings (reverse more) (map kept_row (reverse (take (i + 1) rows)))
next_row entries more rows i e row less is pushed kept before =
    let count : length (reverse entries) ≡ i =
    as_many (reverse entries) (map kept_row (reverse (take i rows))) before
    ∙ length-map (reverse (take i rows)) kept_row ∙ length-reverse (take i rows) ∙ taken_length
    rows i less in
    subst (λ l. ArePostings (reverse l) (map kept_row (reverse (take (i + 1) rows)))) (sym pushed)
    (subst (λ l. ArePostings l (map kept_row (reverse (take (i + 1) rows))))
    (sym (reverse-append entries (e ∷ [])))
    (subst (λ l. ArePostings (e ∷ reverse entries) (map kept_row (reverse l)))
    (sym (taken_next rows i row less is))
    (subst (λ l. ArePostings (e ∷ reverse entries) (map kept_row l))
    (sym (reverse-append (take i rows) (row ∷ [])))
    (subst (λ n. IsPostingRow (n + 1) e (kept_row row)) (sym count) kept, before))))

not_less : (a b : ℕ) → b ≤ a → is_lt (int_cmp (pos a) (pos b)) ≡ false
not_less a b most = grind (arith, ints)

-- rows in the order of their numbers
pub in_order : (rows : List KeptEntry) → IsNonDecreasingBy (λ (r : KeptEntry). r.id) rows
    → IsSortedByKey (λ (r : PostingRow). r.id) int_cmp (map kept_row rows)
in_order [] order k d low high = absurd (omega arith)
in_order (r ∷ rows) order k d low high =
    let all : List KeptEntry = r ∷ rows in
    let many : length (map kept_row all) ≡ length all = length-map all kept_row in
    let here : get_or (map kept_row all) k d ≡ kept_row (get_or all k r) =
    get_or-map kept_row all k r d (omega (arith, many, high)) in
    let next : get_or (map kept_row all) (k + 1) d ≡ kept_row (get_or all (k + 1) r) =
    get_or-map kept_row all (k + 1) r d (omega (arith, many, high)) in
    rw (here, next) (not_less (get_or all (k + 1) r).id (get_or all k r).id
    (order k (k + 1) r (omega arith) (omega (arith, many, high))))

pub all_next : {X : Type 0} (P : X → Type 0) (xs more : List X) (x : X) → more ≡ xs ++ x ∷ [] → P x
    → All P xs → All P more
all_next P xs more x pushed here all =
    subst (All P) (sym pushed) (All-append P xs (x ∷ []) all (All-cons P x [] here (All-nil P)))
