-- How far a reader has come in the rows of a setup.
use Rattle.std.specs.Prelude.{◌≡◌, ◌≤◌, ℕ, ◌+◌, Bool, true, false, cond, List, [], ◌∷◌, ◌++◌}
use Rattle.std.specs.Prelude.{length, Option, Some, None, refl}
use Rattle.std.proofs.Common.{arith, ap, sym, ◌∙◌, append_assoc}
use Rattle.std.proofs.lemmas.List.{append-nil, length-append}
use Rattle.std.proofs.lemmas.List.Sums.{fold_push}
use Rattle.std.specs.Option.{option_or}
use Rattle.csv.specs.Machine.{ends_at_end, next_record}
use Rattle.csv.specs.Reading.{default_config, is_bom, records, strip_bom}
use Rattle.csv.specs.declared.parser.State.{State}
use Rattle.csv.specs.declared.parser.State.TheVariants as st
use Rattle.nest_core.specs.Museum.{Museum, no_museum}
use Rattle.nest_core.specs.SetupRows.{Fields, first_fault, museum_of, row_fault, with_row}
use Rattle.nest_core.specs.declared.setup_fault.SetupFault.{SetupFault}
use Rattle.nest_core.proofs.CsvRows.{left_at_start, left_none, left_some, next_leaves, rows_left}

-- The rows before row n are listed in S and have no fault, and the rest is read from this state.
pub record IsUpTo (text : List ℕ) (S : Museum) (n : ℕ) (s : State) (xs : List ℕ) : Type 0 where
  pub before : List Fields
  pub rows : records default_config text ≡ before ++ rows_left s xs
  pub museum : S ≡ museum_of before
  pub number : n ≡ length before + 1
  pub fault : first_fault [] (records default_config text) ≡ first_fault before (rows_left s xs)
  pub rests : ends_at_end s ≡ false

pub at_start : (text : List ℕ) → IsUpTo text no_museum 1 st.StartRecord text
at_start text = record {
  before = [];
  rows = left_at_start text;
  museum = refl;
  number = refl;
  fault = ap (first_fault []) (left_at_start text);
  rests = refl;
}

none_first : (o q : Option SetupFault) → o ≡ None → option_or o q ≡ q
none_first o q e = ap (λ f. option_or f q) e

some_first : (o q : Option SetupFault) (f : SetupFault) → o ≡ Some f → option_or o q ≡ Some f
some_first o q f e = ap (λ g. option_or g q) e

-- the fault of the next row, by the definition
here_is : (S : Museum) (n : ℕ) (before : List Fields) (row : Fields) (o : Option SetupFault)
    → S ≡ museum_of before → n ≡ length before + 1 → row_fault S n row ≡ o
    → row_fault (museum_of before) (length before + 1) row ≡ o
here_is S n before row o museum number e =
    ap (λ T. row_fault T (length before + 1) row) (sym museum) ∙ ap (λ m. row_fault S m row)
    (sym number) ∙ e

-- one more row
pub one_more : (text : List ℕ) (S T : Museum) (n : ℕ) (s : State) (xs : List ℕ) (row : Fields)
    (t : State) (ys : List ℕ) → IsUpTo text S n s xs
    → next_record default_config s [] [] xs ≡ Some (row, t, ys) → row_fault S n row ≡ None
    → T ≡ with_row S row → IsUpTo text T (n + 1) t ys
one_more text S T n s xs row t ys up next none with =
    let left = left_some s xs (row, t, ys) up.rests next in
    let museum : museum_of (up.before ++ row ∷ []) ≡ with_row S row =
    fold_push with_row no_museum up.before row ∙ ap (λ m. with_row m row) (sym up.museum) in
    record {
      before = up.before ++ row ∷ [];
      rows = up.rows ∙ ap (λ rows. up.before ++ rows) left
          ∙ sym (append_assoc up.before (row ∷ []) (rows_left t ys));
      museum = with ∙ sym museum;
      number = omega (arith, length-append up.before (row ∷ []), up.number);
      fault = up.fault ∙ ap (first_fault up.before) left
          ∙ none_first (row_fault (museum_of up.before) (length up.before + 1) row)
          (first_fault (up.before ++ row ∷ []) (rows_left t ys))
          (here_is S n up.before row None up.museum up.number none);
      rests = (next_leaves default_config s [] [] xs (row, t, ys) next).rests;
    }

-- a row with a fault
pub fault_here : (text : List ℕ) (S : Museum) (n : ℕ) (s : State) (xs : List ℕ) (row : Fields)
    (t : State) (ys : List ℕ) (f : SetupFault) → IsUpTo text S n s xs
    → next_record default_config s [] [] xs ≡ Some (row, t, ys) → row_fault S n row ≡ Some f
    → first_fault [] (records default_config text) ≡ Some f
fault_here text S n s xs row t ys f up next some =
    up.fault ∙ ap (first_fault up.before) (left_some s xs (row, t, ys) up.rests next)
    ∙ some_first (row_fault (museum_of up.before) (length up.before + 1) row)
    (first_fault (up.before ++ row ∷ []) (rows_left t ys)) f
    (here_is S n up.before row (Some f) up.museum up.number some)

-- no more rows
pub at_end : (text : List ℕ) (S : Museum) (n : ℕ) (s : State) (xs : List ℕ) → IsUpTo text S n s xs
    → next_record default_config s [] [] xs ≡ None
    → (first_fault [] (records default_config text) ≡ None)
    × (S ≡ museum_of (records default_config text))
at_end text S n s xs up next =
    let left = left_none s xs next in (
      up.fault ∙ ap (first_fault up.before) left,
      up.museum ∙ ap museum_of
          (sym (up.rows ∙ ap (λ rows. up.before ++ rows) left ∙ append-nil up.before)),
    )

-- without the byte order mark a text is no longer
strip_most : (b : Bool) (a c d : ℕ) (rest : List ℕ)
    → length (cond b rest (a ∷ c ∷ d ∷ rest)) ≤ length (a ∷ c ∷ d ∷ rest)
strip_most true a c d rest = omega arith
strip_most false a c d rest = omega arith

pub strip_few : (xs : List ℕ) → length (strip_bom xs) ≤ length xs
unfolding strip_bom
strip_few [] = omega arith
strip_few (a ∷ []) = omega arith
strip_few (a ∷ b ∷ []) = omega arith
strip_few (a ∷ b ∷ c ∷ rest) = strip_most (is_bom a b c) a b c rest

-- after the last byte there is no more row
pub spent : (s : State) (xs : List ℕ) → ends_at_end s ≡ false → length xs ≡ 0
    → next_record default_config s [] [] xs ≡ None
unfolding next_record
spent s [] rests none = rw rests refl
spent s (x ∷ xs) rests none = absurd (omega arith)
