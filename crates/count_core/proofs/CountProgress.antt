-- How far a check has come in the rows of a count list.
use Rattle.std.specs.Prelude.{◌≡◌, ℕ, ◌+◌, ◌≤◌, false, List, [], ◌∷◌, ◌++◌, length, Option, Some}
use Rattle.std.specs.Prelude.{None, refl}
use Rattle.std.proofs.Common.{arith, ap, sym, ◌∙◌, append_assoc}
use Rattle.std.proofs.lemmas.List.{append-nil, length-append, length_push}
use Rattle.std.proofs.lemmas.List.Elements.{filter_map-append}
use Rattle.std.specs.List.{cons_option}
use Rattle.std.specs.Option.{option_or, option_to_list}
use Rattle.csv.specs.Machine.{ends_at_end, next_record}
use Rattle.csv.specs.Reading.{default_config, records}
use Rattle.csv.specs.declared.parser.State.{State}
use Rattle.csv.specs.declared.parser.State.TheVariants as st
use Rattle.nest_core.specs.SetupRows.{Fields}
use Rattle.nest_core.proofs.CsvRows.{left_at_start, left_none, left_some, next_leaves, rows_left}
use Rattle.count_core.specs.declared.count_row.CountRow.{CountRow}
use Rattle.count_core.specs.declared.count_fault.CountFault.{CountFault}
use Rattle.count_core.specs.CountRows.{counted, counts_of, first_fault, row_fault}
use Rattle.count_core.specs.CountChecks.{row_faults}
use Rattle.count_core.specs.SetupChecks.{first_of}

-- This many rows are checked: so many of them aren't skipped, and these are their faults. The rest
-- is read from this state.
pub record IsUpTo (text : List ℕ) (many : ℕ) (faults : List CountFault) (number : ℕ) (s : State)
    (xs : List ℕ) : Type 0 where
  pub above : List Fields
  pub rows : records default_config text ≡ above ++ rows_left s xs
  pub count : many ≡ length (counts_of above)
  pub numbered : number ≡ length above
  pub all : row_faults [] (records default_config text)
      ≡ faults ++ row_faults above (rows_left s xs)
  pub rests : ends_at_end s ≡ false

pub at_start : (text : List ℕ) → IsUpTo text 0 [] 0 st.StartRecord text
at_start text = record {
  above = [];
  rows = left_at_start text;
  count = refl;
  numbered = refl;
  all = ap (row_faults []) (left_at_start text);
  rests = refl;
}

as_list : (o : Option CountRow) → cons_option o [] ≡ option_to_list o
as_list None = refl
as_list (Some r) = refl

pub at_most_one : (o : Option CountRow) → length (option_to_list o) ≤ 1
at_most_one None = omega arith
at_most_one (Some r) = omega arith

count_more : (above : List Fields) (row : Fields)
    → length (counts_of (above ++ row ∷ []))
    ≡ length (counts_of above) + length (option_to_list (counted row))
count_more above row =
    ap length (filter_map-append counted above (row ∷ []) ∙ ap (λ ks. counts_of above ++ ks)
    (as_list (counted row)))
    ∙ length-append (counts_of above) (option_to_list (counted row))

-- the fault of the next row, by the definition
fault_is : (many number : ℕ) (above : List Fields) (row : Fields) → many ≡ length (counts_of above)
    → number ≡ length above
    → row_fault many (number + 1) row
    ≡ row_fault (length (counts_of above)) (length above + 1) row
fault_is many number above row count numbered =
    ap (λ m. row_fault m (number + 1) row) count
    ∙ ap (λ n. row_fault (length (counts_of above)) (n + 1) row) numbered

-- one more row
pub one_more : (text : List ℕ) (many more : ℕ) (faults now : List CountFault) (number : ℕ)
    (s : State) (xs : List ℕ) (row : Fields) (t : State) (ys : List ℕ)
    → IsUpTo text many faults number s xs
    → next_record default_config s [] [] xs ≡ Some (row, t, ys)
    → more ≡ many + length (option_to_list (counted row))
    → now ≡ faults ++ option_to_list (row_fault many (number + 1) row)
    → IsUpTo text more now (number + 1) t ys
one_more text many more faults now number s xs row t ys up next counts adds =
    let left = left_some s xs (row, t, ys) up.rests next in
    let rest = row_faults (up.above ++ row ∷ []) (rows_left t ys) in
    let same = fault_is many number up.above row up.count up.numbered in
    record {
      above = up.above ++ row ∷ [];
      rows = up.rows ∙ ap (λ rows. up.above ++ rows) left
          ∙ sym (append_assoc up.above (row ∷ []) (rows_left t ys));
      count = counts ∙ ap (λ m. m + length (option_to_list (counted row))) up.count
          ∙ sym (count_more up.above row);
      numbered = omega (arith, length_push up.above row, up.numbered);
      all = up.all ∙ ap (λ rows. faults ++ row_faults up.above rows) left
          ∙ ap (λ o. faults ++ (option_to_list o ++ rest)) (sym same)
          ∙ sym (append_assoc faults (option_to_list (row_fault many (number + 1) row)) rest)
          ∙ ap (λ fs. fs ++ rest) (sym adds);
      rests = (next_leaves default_config s [] [] xs (row, t, ys) next).rests;
    }

-- no more rows
pub at_end : (text : List ℕ) (many : ℕ) (faults : List CountFault) (number : ℕ) (s : State)
    (xs : List ℕ) → IsUpTo text many faults number s xs
    → next_record default_config s [] [] xs ≡ None
    → (many ≡ length (counts_of (records default_config text)))
    × (faults ≡ row_faults [] (records default_config text))
at_end text many faults number s xs up next =
    let left = left_none s xs next in (
      up.count ∙ ap (λ rows. length (counts_of rows))
          (sym (up.rows ∙ ap (λ rows. up.above ++ rows) left ∙ append-nil up.above)),
      sym (up.all ∙ ap (λ rows. faults ++ row_faults up.above rows) left ∙ append-nil faults),
    )

-- the first of all faults

first_joined : (o : Option CountFault) (faults : List CountFault)
    → first_of (option_to_list o ++ faults) ≡ option_or o (first_of faults)
first_joined None faults = refl
first_joined (Some f) faults = refl

pub first_row : (before rows : List Fields)
    → first_of (row_faults before rows) ≡ first_fault before rows
first_row before [] = refl
first_row before (row ∷ rows) =
    let here = row_fault (length (counts_of before)) (length before + 1) row in
    first_joined here (row_faults (before ++ row ∷ []) rows)
    ∙ ap (option_or here) (first_row (before ++ row ∷ []) rows)
