-- The entry that makes a loan's agreement, by its kept number.
use Rattle.std.specs.Prelude.{ℕ, ◌≡◌, ◌+◌, ◌-◌, ◌<◌, ◌≤◌, List, [], ◌∷◌, ◌++◌, None, Option, Some}
use Rattle.std.specs.Prelude.{cond, false, length, map, nat_lt, not, refl, reverse, slice_get}
use Rattle.std.specs.Prelude.{suc, true, zero}
use Rattle.std.specs.List.{find, position, position_or_len}
use Rattle.std.specs.Option.{option_map, option_to_list}
use Rattle.std.specs.Str.{bytes_eq}
use Rattle.std.proofs.Common.{ap, arith, get_or, ◌∙◌, subst, sym}
use Rattle.std.proofs.lemmas.Option.{get_or_from_slice_get, slice_get_within}
use Rattle.std.proofs.lemmas.Bool.Decides.{nat_tests}
use Rattle.std.proofs.lemmas.List.{length-append, length-map, length-reverse, reverse-reverse}
use Rattle.std.proofs.lemmas.Grind.{reverse_onto}
use Rattle.std.proofs.lemmas.List.Folds.{find_at}
use Rattle.posting_core.specs.declared.entry.Entry.{Entry}
use Rattle.posting_core.specs.Agreements.{Agreement, agreed_entries, agreement, agreement_by}
use Rattle.posting_core.specs.Agreements.{agreements, loan_no, loans}
use Rattle.posting_core.proofs.KeptLoans.{found}

-- an element of the first of two lists, and one of the second
front_at : {X : Type 0} (xs ys : List X) (i : ℕ) → i < length xs
    → slice_get (xs ++ ys) i ≡ slice_get xs i
front_at [] ys i h = absurd (omega (arith, h))
front_at (x ∷ xs) ys zero h = refl
front_at (x ∷ xs) ys (suc i) h = front_at xs ys i (omega (arith, h))

behind_at : {X : Type 0} (xs ys : List X) (i : ℕ)
    → slice_get (xs ++ ys) (length xs + i) ≡ slice_get ys i
behind_at [] ys i = ap (slice_get ys) (let e : 0 + i ≡ i = omega arith in e)
behind_at (x ∷ xs) ys i = ap (slice_get (x ∷ (xs ++ ys)))
    (let e : suc (length xs) + i ≡ suc (length xs + i) = omega arith in e) ∙ behind_at xs ys i

-- there is a number for each agreement
pub as_many_entries : (P : List Entry) → length (agreed_entries P) ≡ length (agreements P)
as_many_entries [] = refl
as_many_entries (e ∷ P) =
    let o = option_to_list (agreement_by e.verdict e.message) in
    length-append (agreed_entries P) (map (λ t. length P + 1) o)
    ∙ ap (λ n. n + length (map (λ t. length P + 1) o)) (as_many_entries P)
    ∙ ap (λ n. length (agreements P) + n) (length-map o (λ t. length P + 1))
    ∙ sym (length-append (agreements P) o)

-- a list has an element at each place within it
some_at : {X : Type 0} (xs : List X) (i : ℕ) → i < length xs → slice_get xs i ≡ None → ⊥
some_at [] i h none = omega (arith, h)
some_at (x ∷ xs) zero h none = absurd (cc)
some_at (x ∷ xs) (suc i) h none = some_at xs i (omega (arith, h)) none

-- the entry with this number makes the agreement
pub record Makes (P : List Entry) (i : ℕ) (t : Agreement) : Type 0 where
  pub number : ℕ
  pub entry : Entry
  pub numbered : slice_get (agreed_entries P) i ≡ Some number
  pub some : 0 < number
  pub few : number ≤ length P
  pub there : slice_get (reverse P) (number - 1) ≡ Some entry
  pub makes : agreement_by entry.verdict entry.message ≡ Some t

further : (P : List Entry) (e : Entry) (i : ℕ) (t : Agreement) → i < length (agreements P)
    → Makes P i t → Makes (e ∷ P) i t
further P e i t less makes = record {
  number = makes.number;
  entry = makes.entry;
  numbered = front_at (agreed_entries P)
      (map (λ t. length P + 1) (option_to_list (agreement_by e.verdict e.message))) i
      (omega (arith, less, as_many_entries P)) ∙ makes.numbered;
  some = makes.some;
  few = omega (arith, makes.few);
  there = ap (λ es. slice_get es (makes.number - 1)) (reverse_onto P e [])
      ∙ front_at (reverse P) (e ∷ []) (makes.number - 1)
      (omega (arith, makes.some, makes.few, length-reverse P)) ∙ makes.there;
  makes = makes.makes;
}

newest : (P : List Entry) (e : Entry) (t : Agreement) → agreement_by e.verdict e.message ≡ Some t
    → Makes (e ∷ P) (length (agreements P)) t
newest P e t made = record {
  number = length P + 1;
  entry = e;
  numbered =
      ap (slice_get (agreed_entries (e ∷ P)))
      (let at : length (agreements P) ≡ length (agreed_entries P) + 0 =
      omega (arith, as_many_entries P) in at)
      ∙ behind_at (agreed_entries P)
      (map (λ t. length P + 1) (option_to_list (agreement_by e.verdict e.message))) 0
      ∙ ap (λ o. slice_get (map (λ t. length P + 1) (option_to_list o)) 0) made;
  some = omega arith;
  few = omega arith;
  there = ap (λ es. slice_get es (length P + 1 - 1)) (reverse_onto P e [])
      ∙ ap (slice_get (reverse P ++ e ∷ []))
      (let at : length P + 1 - 1 ≡ length (reverse P) + 0 =
      omega (arith, length-reverse P) in at)
      ∙ behind_at (reverse P) (e ∷ []) 0;
  makes = made;
}

only_one : (o : Option Agreement) (k : ℕ) (t : Agreement)
    → slice_get (option_to_list o) k ≡ Some t → (k ≡ 0) × (o ≡ Some t)
only_one None k t at = absurd (cc)
only_one (Some u) zero t at = (refl, at)
only_one (Some u) (suc k) t at = absurd (cc)

-- each agreement is made by the entry with its number
pub made_at : (P : List Entry) (i : ℕ) (t : Agreement) → slice_get (agreements P) i ≡ Some t
    → Makes P i t
made_at [] i t at = absurd (cc)
made_at (e ∷ P) i t at =
    elim (nat_lt i (length (agreements P))) as (λ b. nat_lt i (length (agreements P)) ≡ b
    → Makes (e ∷ P) i t) [
      | true ↦ λ is.
          let less : i < length (agreements P) = grind (arith, nat_tests, is) in
          further P e i t less (made_at P i t
          (sym (front_at (agreements P) (option_to_list (agreement_by e.verdict e.message)) i less)
          ∙ at))
      | false ↦ λ is.
          let most : length (agreements P) ≤ i = grind (arith, nat_tests, is) in
          let same : length (agreements P) + (i - length (agreements P)) ≡ i =
          omega (arith, most) in
          let one = only_one (agreement_by e.verdict e.message) (i - length (agreements P)) t
          (sym (behind_at (agreements P) (option_to_list (agreement_by e.verdict e.message))
          (i - length (agreements P))) ∙ ap (slice_get (agreements (e ∷ P))) same ∙ at) in
          subst (λ k. Makes (e ∷ P) k t)
          (let here : length (agreements P) ≡ i = omega (arith, one.0, most) in here)
          (newest P e t one.1)
    ] refl

first_agreement : (loan : List ℕ) (ts : List Agreement)
    → position_or_len (λ t. bytes_eq loan t.loan) ts
    ≡ position_or_len (bytes_eq loan) (map (λ t. t.loan) ts)
first_agreement loan [] = refl
first_agreement loan (t ∷ ts) = ap (λ n. cond (not (bytes_eq loan t.loan)) (1 + n) 0)
    (first_agreement loan ts)

-- the agreement of a loan is that with the loan's number
pub agreement_at : (P : List Entry) (loan : List ℕ) (i : ℕ) → loan_no P loan ≡ Some i
    → (t : Agreement) × (agreement P loan ≡ Some t) × Makes P i t
agreement_at P loan i at =
    let (less, first) = found loan (loans P) i at in
    let within : i < length (agreements P) =
    omega (arith, less, length-map (agreements P) (λ t. t.loan)) in
    let is : agreement P loan ≡ slice_get (agreements P) i =
    find_at (λ t. bytes_eq loan t.loan) (agreements P)
    ∙ ap (slice_get (agreements P)) (first_agreement loan (agreements P) ∙ first) in
    made (slice_get (agreements P) i) refl within is
  where
    made : (o : Option Agreement) → slice_get (agreements P) i ≡ o → i < length (agreements P)
        → agreement P loan ≡ o → (t : Agreement) × (agreement P loan ≡ Some t) × Makes P i t
    made None there within is = absurd (some_at (agreements P) i within there)
    made (Some t) there within is = (t, is, made_at P i t there)

-- The numbers and the entries as a ledger keeps them, the oldest first, and the loan's number in
-- them.
module _ (P : List Entry) {A : List ℕ} (kept : A ≡ agreed_entries P) (loan : List ℕ) (i : ℕ)
    (at : loan_no P loan ≡ Some i) where
  abbrev pub is_made : Makes P i (agreement_at P loan i at).0
  is_made = (agreement_at P loan i at).2

  pub number_within : i < length A
  number_within =
      let within = slice_get_within (agreed_entries P) i is_made.number is_made.numbered in
      omega (arith, within, ap length kept)

  pub number_is : (n : ℕ) → n ≡ get_or A i n → n ≡ is_made.number
  number_is n read = read ∙ get_or_from_slice_get A i is_made.number n
      (ap (λ ns. slice_get ns i) kept ∙ is_made.numbered)

  pub number_some : (n : ℕ) → n ≡ get_or A i n → 1 ≤ n
  number_some n read = omega (arith, number_is n read, is_made.some)

  pub entry_within : (es : List Entry) (n : ℕ) → reverse es ≡ P → n ≡ get_or A i n
      → n - 1 < length es
  entry_within es n same read =
      omega (
        arith,
        number_is n read,
        is_made.some,
        is_made.few,
        ap length same,
        length-reverse es,
      )

  pub entry_makes : (es : List Entry) (n : ℕ) (e : Entry) → reverse es ≡ P → n ≡ get_or A i n
      → e ≡ get_or es (n - 1) e
      → Some (agreement_by e.verdict e.message) ≡ option_map Some (agreement P loan)
  entry_makes es n e same numbered read =
      let are : es ≡ reverse P = sym (reverse-reverse es) ∙ ap reverse same in
      let here : slice_get es (n - 1) ≡ Some is_made.entry =
      ap (λ k. slice_get es (k - 1)) (number_is n numbered)
      ∙ ap (λ xs. slice_get xs (is_made.number - 1)) are ∙ is_made.there in
      let is : e ≡ is_made.entry =
      read ∙ get_or_from_slice_get es (n - 1) is_made.entry e here in
      ap (λ (x : Entry). Some (agreement_by x.verdict x.message)) is
      ∙ ap Some is_made.makes
      ∙ sym (ap (option_map Some) (agreement_at P loan i at).1)
