-- How far a reader has come in the rows of a count list.
use Rattle.std.specs.Prelude.{◌≡◌, ℕ, ◌+◌, ◌≤◌, ◌==◌, not, nat_lt, Bool, true, false, List, [], ◌∷◌}
use Rattle.std.specs.Prelude.{◌++◌, length, Option, Some, None, if◌then◌else◌, refl}
use Rattle.std.proofs.Common.{arith, ap, sym, ◌∙◌, append_assoc}
use Rattle.std.proofs.lemmas.Bool.Decides.{nat_tests}
use Rattle.std.proofs.lemmas.List.{append-nil, length-append}
use Rattle.std.proofs.lemmas.List.Elements.{filter_map-append}
use Rattle.std.specs.List.{cons_option}
use Rattle.std.specs.Option.{option_or, option_to_list}
use Rattle.csv.specs.Machine.{ends_at_end, next_record}
use Rattle.csv.specs.Reading.{default_config, records}
use Rattle.csv.specs.declared.parser.State.{State}
use Rattle.csv.specs.declared.parser.State.TheVariants as st
use Rattle.nest_core.specs.SetupRows.{Fields, field_count}
use Rattle.nest_core.proofs.CsvRows.{left_at_start, left_none, left_some, next_leaves, rows_left}
use Rattle.count_core.specs.declared.count_row.CountRow.{CountRow}
use Rattle.count_core.specs.declared.count_fault.CountFault.{CountFault}
use Rattle.count_core.specs.declared.count_fault.CountFault.TheVariants.{BadFields, BadCode}
use Rattle.count_core.specs.CountRows.{count_row, counted, counts_of, first_fault, has_codes}
use Rattle.count_core.specs.CountRows.{own_fault, row_fault}

-- The rows before row n are kept and have no fault, and the rest is read from this state.
pub record IsUpTo (text : List ℕ) (kept : List CountRow) (n : ℕ) (s : State) (xs : List ℕ) :
    Type 0 where
  pub before : List Fields
  pub rows : records default_config text ≡ before ++ rows_left s xs
  pub counts : kept ≡ counts_of before
  pub number : n ≡ length before + 1
  pub fault : first_fault [] (records default_config text) ≡ first_fault before (rows_left s xs)
  pub rests : ends_at_end s ≡ false

pub at_start : (text : List ℕ) → IsUpTo text [] 1 st.StartRecord text
at_start text = record {
  before = [];
  rows = left_at_start text;
  counts = refl;
  number = refl;
  fault = ap (first_fault []) (left_at_start text);
  rests = refl;
}

-- the fault of the next row, by the definition
here_is : (kept : List CountRow) (n : ℕ) (before : List Fields) (row : Fields)
    (o : Option CountFault) → kept ≡ counts_of before → n ≡ length before + 1
    → row_fault (length kept) n row ≡ o
    → row_fault (length (counts_of before)) (length before + 1) row ≡ o
here_is kept n before row o counts number e =
    ap (λ (ks : List CountRow). row_fault (length ks) (length before + 1) row) (sym counts)
    ∙ ap (λ m. row_fault (length kept) m row) (sym number) ∙ e

as_list : (o : Option CountRow) → cons_option o [] ≡ option_to_list o
as_list None = refl
as_list (Some r) = refl

-- one more row
pub one_more : (text : List ℕ) (kept next_kept : List CountRow) (n : ℕ) (s : State) (xs : List ℕ)
    (row : Fields) (t : State) (ys : List ℕ) → IsUpTo text kept n s xs
    → next_record default_config s [] [] xs ≡ Some (row, t, ys)
    → row_fault (length kept) n row ≡ None → next_kept ≡ kept ++ option_to_list (counted row)
    → IsUpTo text next_kept (n + 1) t ys
one_more text kept next_kept n s xs row t ys up next none with =
    let left = left_some s xs (row, t, ys) up.rests next in
    let counts : counts_of (up.before ++ row ∷ []) ≡ kept ++ option_to_list (counted row) =
    filter_map-append counted up.before (row ∷ [])
    ∙ (ap (λ ks. ks ++ cons_option (counted row) []) (sym up.counts) ∙ ap (λ ks. kept ++ ks)
    (as_list (counted row))) in
    record {
      before = up.before ++ row ∷ [];
      rows = up.rows ∙ ap (λ rows. up.before ++ rows) left
          ∙ sym (append_assoc up.before (row ∷ []) (rows_left t ys));
      counts = with ∙ sym counts;
      number = omega (arith, length-append up.before (row ∷ []), up.number);
      fault = up.fault ∙ ap (first_fault up.before) left
          ∙ ap (λ o. option_or o (first_fault (up.before ++ row ∷ []) (rows_left t ys)))
          (here_is kept n up.before row None up.counts up.number none);
      rests = (next_leaves default_config s [] [] xs (row, t, ys) next).rests;
    }

-- a row with a fault
pub fault_here : (text : List ℕ) (kept : List CountRow) (n : ℕ) (s : State) (xs : List ℕ)
    (row : Fields) (t : State) (ys : List ℕ) (f : CountFault) → IsUpTo text kept n s xs
    → next_record default_config s [] [] xs ≡ Some (row, t, ys)
    → row_fault (length kept) n row ≡ Some f
    → first_fault [] (records default_config text) ≡ Some f
fault_here text kept n s xs row t ys f up next some =
    up.fault ∙ ap (first_fault up.before) (left_some s xs (row, t, ys) up.rests next)
    ∙ ap (λ o. option_or o (first_fault (up.before ++ row ∷ []) (rows_left t ys)))
    (here_is kept n up.before row (Some f) up.counts up.number some)

-- no more rows
pub at_end : (text : List ℕ) (kept : List CountRow) (n : ℕ) (s : State) (xs : List ℕ)
    → IsUpTo text kept n s xs → next_record default_config s [] [] xs ≡ None
    → (first_fault [] (records default_config text) ≡ None)
    × (kept ≡ counts_of (records default_config text))
at_end text kept n s xs up next =
    let left = left_none s xs next in (
      up.fault ∙ ap (first_fault up.before) left,
      up.counts ∙ ap counts_of
          (sym (up.rows ∙ ap (λ rows. up.before ++ rows) left ∙ append-nil up.before)),
    )

-- the tests of a row, in their order
own_is : (n : ℕ) (row : Fields) (none many right : Bool) → (field_count row == 0) ≡ none
    → nat_lt 2 (field_count row) ≡ many → has_codes row ≡ right
    → own_fault n row
    ≡ (if none then None else (if many then Some (BadFields n) else
    (if not right then Some (BadCode n) else None)))
own_is n row none many right e f g =
    ap (λ b. if b then None else (if nat_lt 2 (field_count row) then Some (BadFields n) else
    (if not (has_codes row) then Some (BadCode n) else None))) e
    ∙ (ap (λ b. if none then None else
    (if b then Some (BadFields n) else
    (if not (has_codes row) then Some (BadCode n) else None))) f
    ∙ ap (λ b. if none then None else
    (if many then Some (BadFields n) else (if not b then Some (BadCode n) else None))) g)

not_zero : (count fields : ℕ) → count ≡ fields → (count ≡ 0 → ⊥) → (fields == 0) ≡ false
not_zero count fields is some = grind (arith, nat_tests)

not_many : (count fields : ℕ) → count ≡ fields → count ≤ 2 → nat_lt 2 fields ≡ false
not_many count fields is few = grind (arith, nat_tests)

chosen : (b : Bool) (x : CountRow) (o : Option CountRow) → o ≡ (if b then Some x else None)
    → (r : CountRow) → o ≡ Some r → (b ≡ true) × (o ≡ Some x)
chosen true x o is r some = (refl, is)
chosen false x o is r some = absurd (let no : Some r ≡ None = sym some ∙ is in cc)

not_chosen : (b : Bool) (x : CountRow) (o : Option CountRow) → o ≡ (if b then Some x else None)
    → o ≡ None → b ≡ false
not_chosen true x o is none = absurd (let no : Some x ≡ None = sym is ∙ none in cc)
not_chosen false x o is none = refl

-- a row with valid codes
pub reads : (n : ℕ) (row : Fields) (count : ℕ) (r : CountRow) → count ≡ field_count row
    → (count ≡ 0 → ⊥) → count ≤ 2
    → Some r ≡ (if has_codes row then Some (count_row row) else None) → (own_fault n row ≡ None)
    × (Some r ≡ counted row)
reads n row count r is some few codes =
    let right = chosen (has_codes row) (count_row row) (Some r) codes r refl in (
      own_is n row false false true (not_zero count (field_count row) is some)
          (not_many count (field_count row) is few) right.0,
      right.1 ∙ sym (ap (λ b. if b then None else Some (count_row row))
          (not_zero count (field_count row) is some)),
    )

-- a row with an invalid code
pub refuses : (n : ℕ) (row : Fields) (count : ℕ) → count ≡ field_count row
    → (count ≡ 0 → ⊥) → count ≤ 2
    → None ≡ (if has_codes row then Some (count_row row) else None)
    → own_fault n row ≡ Some (BadCode n)
refuses n row count is some few codes =
    own_is n row false false false (not_zero count (field_count row) is some)
    (not_many count (field_count row) is few)
    (not_chosen (has_codes row) (count_row row) None codes refl)
