-- The loans that a ledger keeps, found by their codes.
use Rattle.std.specs.Prelude.{◌≡◌, ℕ, ◌+◌, ◌<◌, true, false, cond, not, List, [], ◌∷◌, ◌++◌, length}
use Rattle.std.specs.Prelude.{map, Option, Some, None, IfSome, nat_lt, slice_get, slice_set, refl}
use Rattle.std.specs.Prelude.{zero, suc}
use Rattle.std.specs.List.{find, position, position_or_len}
use Rattle.std.specs.Str.{bytes_eq}
use Rattle.std.proofs.lemmas.Bool.Decides.{nat_tests}
use Rattle.std.proofs.lemmas.List.{map-append, length-map}
use Rattle.std.proofs.lemmas.List.Folds.{find_at}
use Rattle.std.proofs.lemmas.List.Quantifiers.{position-Some}
use Rattle.std.proofs.lemmas.List.Sums.{position_or_len_is}
use Rattle.std.proofs.lemmas.Option.{slice_get-get_or, slice_get_past}
use Rattle.std.proofs.Common.{arith, ap, sym, subst, ◌∙◌, get_or}
use Rattle.std.proofs.Math.Seq.{map-set_same}
use Rattle.indexmap.specs.IndexSet.{insert_key}
use Rattle.nest_core.proofs.Positions.{absent, insert_key_new}
use Rattle.posting_core.specs.declared.entry.NewLine.{NewLine}
use Rattle.posting_core.specs.LoanRows.{LoanRow, changed, with_stage, with_lines}

-- the codes of the loans
abbrev pub loan_codes : List LoanRow → List (List ℕ)
loan_codes rows = map (λ row. row.loan) rows

changed_first : (f : LoanRow → LoanRow) (loan : List ℕ) (rows : List LoanRow) (i : ℕ)
    (d new : LoanRow) → bytes_eq loan (get_or (loan_codes rows) i []) ≡ true →
    ((k : ℕ) → k < i → bytes_eq loan (get_or (loan_codes rows) k []) ≡ false)
    → new ≡ f (get_or rows i d) → slice_set rows i new ≡ changed f loan rows
changed_first f loan [] i d new here before is = refl
changed_first f loan (row ∷ rows) zero d new here before is =
    let this : bytes_eq loan row.loan ≡ true = here in rw this (ap (λ r. r ∷ rows) is)
changed_first f loan (row ∷ rows) (suc i) d new here before is =
    let other : bytes_eq loan row.loan ≡ false = before zero (omega arith) in
    rw other (ap (λ rest. row ∷ rest)
    (changed_first f loan rows i d new here (λ k earlier. before (suc k) (omega arith)) is))

unchanged : (f : LoanRow → LoanRow) (loan : List ℕ) (rows : List LoanRow)
    → position_or_len (bytes_eq loan) (loan_codes rows) ≡ length (loan_codes rows)
    → rows ≡ changed f loan rows
unchanged f loan [] = λ none. refl
unchanged f loan (row ∷ rows) =
    elim (bytes_eq loan row.loan) as
    (λ t. cond (not t) (1 + position_or_len (bytes_eq loan) (loan_codes rows)) 0
    ≡ suc (length (loan_codes rows)) →
    row ∷ rows ≡ cond t (f row ∷ rows) (row ∷ changed f loan rows)) [
      | true ↦ λ none. absurd (omega arith)
      | false ↦ λ none. ap (λ rest. row ∷ rest) (unchanged f loan rows (omega arith))
    ]

-- no row is changed if the code isn't found
changed_none : (f : LoanRow → LoanRow) (loan : List ℕ) (rows : List LoanRow)
    → position (bytes_eq loan) (loan_codes rows) ≡ None → rows ≡ changed f loan rows
changed_none f loan rows none =
    unchanged f loan rows (absent (bytes_eq loan) (loan_codes rows) none)

-- a loan's row is changed at the position of its code
pub changed_kept : (f : LoanRow → LoanRow) (loan : List ℕ) {codes : List (List ℕ)}
    {rows seen : List LoanRow} {i : ℕ} {row new : LoanRow} → codes ≡ loan_codes rows → rows ≡ seen
    → Some i ≡ position (bytes_eq loan) codes →
    new ≡ f row → row ≡ get_or rows i row → slice_set rows i new ≡ changed f loan seen
changed_kept f loan {rows} {i} {row} {new} same view at is there =
    let first = position-Some (bytes_eq loan) (loan_codes rows) i []
    (ap (position (bytes_eq loan)) (sym same) ∙ sym at) in
    changed_first f loan rows i row new first.1 first.2 (is ∙ ap f there) ∙ ap (changed f loan) view

-- and by its number
pub changed_at : (f : LoanRow → LoanRow) {rows seen : List LoanRow} {number : Option ℕ} {i : ℕ}
    {row new : LoanRow} → rows ≡ seen → number ≡ Some i → new ≡ f row → row ≡ get_or rows i row →
    (loan : List ℕ) → number ≡ position (bytes_eq loan) (loan_codes seen)
    → slice_set rows i new ≡ changed f loan seen
changed_at f view is new there loan at =
    changed_kept f loan refl view (sym is ∙ at
    ∙ ap (λ rows. position (bytes_eq loan) (loan_codes rows)) (sym view)) new there

pub unchanged_at : (f : LoanRow → LoanRow) {rows seen : List LoanRow} {number : Option ℕ}
    → rows ≡ seen → number ≡ None → (loan : List ℕ)
    → number ≡ position (bytes_eq loan) (loan_codes seen) → seen ≡ changed f loan seen
unchanged_at f {seen} view is loan at = changed_none f loan seen (sym at ∙ is)

-- a number that is found is a row's
pub number_within : (rows : List LoanRow) (loan : List ℕ) {number : Option ℕ}
    → number ≡ position (bytes_eq loan) (loan_codes rows) → IfSome number (λ i. i < length rows)
number_within rows loan at = subst (λ o. IfSome o (λ i. i < length rows)) (sym at)
    (within (position (bytes_eq loan) (loan_codes rows)) refl)
  where
    within : (o : Option ℕ) → position (bytes_eq loan) (loan_codes rows) ≡ o
        → IfSome o (λ i. i < length rows)
    within None e = tt
    within (Some i) e = omega (
      arith,
      (position-Some (bytes_eq loan) (loan_codes rows) i [] e).0,
      length-map rows (λ row. row.loan),
    )

-- a row's change leaves its code
pub same_codes : (codes : List (List ℕ)) (rows : List LoanRow) (i : ℕ) (row new : LoanRow)
    → codes ≡ loan_codes rows → new.loan ≡ row.loan → row ≡ get_or rows i row
    → codes ≡ loan_codes (slice_set rows i new)
same_codes codes rows i row new same is there =
    same ∙ sym (map-set_same (λ r. r.loan) rows i new row (is ∙ ap (λ r. r.loan) there))

pub lines_loan : (lines : List NewLine) (row : LoanRow) → (with_lines lines row).loan ≡ row.loan
lines_loan [] row = refl
lines_loan (l ∷ ls) row = lines_loan ls (with_stage row l.object l.stage)

first_row : (loan : List ℕ) (rows : List LoanRow)
    → position_or_len (λ row. bytes_eq loan row.loan) rows ≡ position_or_len (bytes_eq loan)
    (loan_codes rows)
first_row loan [] = refl
first_row loan (row ∷ rows) = ap (λ n. cond (not (bytes_eq loan row.loan)) (1 + n) 0)
    (first_row loan rows)

-- the position of a code
pub found : (loan : List ℕ) (codes : List (List ℕ)) (i : ℕ) → position (bytes_eq loan) codes
    ≡ Some i
    → (i < length codes) × (position_or_len (bytes_eq loan) codes ≡ i)
found loan codes i at =
    let first = position-Some (bytes_eq loan) codes i [] at in
    let less : i < length codes = first.0 in
    (less, position_or_len_is (bytes_eq loan) codes i [] (omega arith) first.2 (λ within. first.1))

-- a loan's row is at the position of its code
row_at : (loan : List ℕ) (rows : List LoanRow) (i : ℕ)
    → position (bytes_eq loan) (loan_codes rows) ≡ Some i
    → find (λ row. bytes_eq loan row.loan) rows ≡ slice_get rows i
row_at loan rows i at = find_at (λ row. bytes_eq loan row.loan) rows ∙ ap (slice_get rows)
    (first_row loan rows ∙ (found loan (loan_codes rows) i at).1)

-- and so it is found in the view of the rows
pub row_kept : (loan : List ℕ) {codes : List (List ℕ)} {rows seen : List LoanRow} {i : ℕ}
    {row : LoanRow} → codes ≡ loan_codes rows → rows ≡ seen
    → Some i ≡ position (bytes_eq loan) codes → row ≡ get_or rows i row →
    Some row ≡ find (λ r. bytes_eq loan r.loan) seen
row_kept loan {rows} {i} {row} same view at there =
    let here : position (bytes_eq loan) (loan_codes rows) ≡ Some i =
    ap (position (bytes_eq loan)) (sym same) ∙ sym at in
    let less : i < length rows = omega (
      arith,
      (found loan (loan_codes rows) i here).0,
      length-map rows (λ r. r.loan),
    ) in
    sym (ap (find (λ r. bytes_eq loan r.loan)) (sym view) ∙ row_at loan rows i here
    ∙ slice_get-get_or rows i row less ∙ ap Some (sym there))

row_none : (loan : List ℕ) (rows : List LoanRow) → position (bytes_eq loan) (loan_codes rows) ≡ None
    → find (λ row. bytes_eq loan row.loan) rows ≡ None
row_none loan rows none = find_at (λ row. bytes_eq loan row.loan) rows ∙ ap (slice_get rows)
    (first_row loan rows ∙ absent (bytes_eq loan) (loan_codes rows) none) ∙ slice_get_past rows
    (length (loan_codes rows)) (omega (arith, length-map rows (λ r. r.loan)))

unfound : (loan : List ℕ) (rows : List LoanRow) → find (λ row. bytes_eq loan row.loan) rows ≡ None
    → position_or_len (bytes_eq loan) (loan_codes rows) ≡ length (loan_codes rows)
unfound loan [] = λ none. refl
unfound loan (row ∷ rows) = elim (bytes_eq loan row.loan) as
    (λ t. cond t (Some row) (find (λ r. bytes_eq loan r.loan) rows) ≡ None
    → cond (not t) (1 + position_or_len (bytes_eq loan) (loan_codes rows)) 0
    ≡ suc (length (loan_codes rows))) [
      | true ↦ λ none. absurd (cc)
      | false ↦ λ none. omega (arith, unfound loan rows none)
    ]

pub no_row_kept : (loan : List ℕ) {codes : List (List ℕ)} {rows seen : List LoanRow}
    → codes ≡ loan_codes rows → rows ≡ seen → None ≡ position (bytes_eq loan) codes
    → None ≡ find (λ r. bytes_eq loan r.loan) seen
no_row_kept loan {rows} same view none =
    sym (ap (find (λ r. bytes_eq loan r.loan)) (sym view) ∙ row_none loan rows
    (ap (position (bytes_eq loan)) (sym same) ∙ sym none))

-- a loan without a row is not among the codes
code_none : (loan : List ℕ) (rows : List LoanRow) → find (λ row. bytes_eq loan row.loan) rows ≡ None
    → position (bytes_eq loan) (loan_codes rows) ≡ None
code_none loan rows none =
    let n : nat_lt (length (loan_codes rows)) (length (loan_codes rows)) ≡ false =
    grind (arith, nat_tests) in
    rw (unfound loan rows none, n) refl

-- one more loan, whose code is new
one_more_code : (rows : List LoanRow) (row : LoanRow)
    → find (λ r. bytes_eq row.loan r.loan) rows ≡ None
    → insert_key bytes_eq (loan_codes rows) row.loan ≡ loan_codes (rows ++ row ∷ [])
one_more_code rows row none = insert_key_new (loan_codes rows) row.loan
    (code_none row.loan rows none) ∙ sym (map-append (λ r. r.loan) rows (row ∷ []))

pub one_more_kept : (row : LoanRow) {codes : List (List ℕ)} {rows seen : List LoanRow}
    {loan : List ℕ} {after : List LoanRow} → codes ≡ loan_codes rows → rows ≡ seen →
    loan ≡ row.loan → find (λ r. bytes_eq row.loan r.loan) seen ≡ None → after ≡ rows ++ row ∷ []
    → insert_key bytes_eq codes loan ≡ loan_codes after
one_more_kept row {rows} {loan} same view code none more =
    ap (λ cs. insert_key bytes_eq cs loan) same ∙ ap (insert_key bytes_eq (loan_codes rows)) code
    ∙ one_more_code rows row (ap (find (λ r. bytes_eq row.loan r.loan)) view ∙ none)
    ∙ ap loan_codes (sym more)
