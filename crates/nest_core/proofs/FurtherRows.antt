-- How far a reader has come in the rows that a setup grows by.
use Rattle.std.specs.Prelude.{◌≡◌, ℕ, false, true, List, [], ◌∷◌, fold, Some, None, refl}
use Rattle.std.specs.Str.{is_utf8}
use Rattle.std.proofs.Common.{ap, sym, ◌∙◌}
use Rattle.csv.specs.Machine.{ends_at_end, next_record}
use Rattle.csv.specs.Reading.{default_config, records}
use Rattle.csv.specs.declared.parser.State.{State}
use Rattle.csv.specs.declared.parser.State.TheVariants as st
use Rattle.nest_core.specs.SetupRows.{Fields}
use Rattle.nest_core.specs.Museum.{Museum}
use Rattle.nest_core.specs.SetupGrowing.{Taking, all_taken, file_faults, with_file, with_further}
use Rattle.nest_core.specs.declared.setup_fault.SetupFault.TheVariants.{NotCsv}
use Rattle.nest_core.specs.declared.grow_fault.GrowFault.{GrowFault}
use Rattle.nest_core.specs.declared.grow_fault.GrowFault.TheVariants.{Setup}
use Rattle.nest_core.proofs.CsvRows.{left_at_start, left_none, left_some, next_leaves, rows_left}

-- The rest of the rows makes of T what all rows make of the start.
pub record IsFurtherTo (text : List ℕ) (start T : Taking) (s : State) (xs : List ℕ)
    : Type 0 where
  pub rest : fold with_further start (records default_config text)
      ≡ fold with_further T (rows_left s xs)
  pub rests : ends_at_end s ≡ false

pub at_start : (text : List ℕ) (T : Taking) → IsFurtherTo text T T st.StartRecord text
at_start text T = record {
  rest = ap (fold with_further T) (left_at_start text);
  rests = refl;
}

-- one more row
pub one_more : (text : List ℕ) (start T U : Taking) (s : State) (xs : List ℕ) (row : Fields)
    (t : State) (ys : List ℕ) → IsFurtherTo text start T s xs
    → next_record default_config s [] [] xs ≡ Some (row, t, ys) → U ≡ with_further T row
    → IsFurtherTo text start U t ys
one_more text start T U s xs row t ys up next with = record {
  rest = up.rest ∙ ap (fold with_further T) (left_some s xs (row, t, ys) up.rests next)
      ∙ ap (λ V. fold with_further V (rows_left t ys)) (sym with);
  rests = (next_leaves default_config s [] [] xs (row, t, ys) next).rests;
}

-- no more rows
pub at_end : (text : List ℕ) (start T : Taking) (s : State) (xs : List ℕ)
    → IsFurtherTo text start T s xs → next_record default_config s [] [] xs ≡ None
    → T ≡ fold with_further start (records default_config text)
at_end text start T s xs up next = sym (up.rest ∙ ap (fold with_further T) (left_none s xs next))

-- bytes that aren't UTF-8 leave C, a copy of S, as it is
pub no_text_taken : (S C : Museum) (faults : List GrowFault) (bytes : List ℕ) → C ≡ S
    → is_utf8 bytes ≡ false → faults ≡ Setup NotCsv ∷ []
    → (C ≡ with_file S bytes) × (faults ≡ file_faults S bytes)
no_text_taken S C faults bytes same none is = rw none (same, is)

-- T has taken in the rows of a file from C, a copy of S
pub text_taken : (S C : Museum) (T : Taking) (bytes : List ℕ) → C ≡ S → is_utf8 bytes ≡ true
    → T ≡ all_taken C bytes
    → (T.setup ≡ with_file S bytes) × (T.faults ≡ file_faults S bytes)
text_taken S C T bytes same text is =
    let all : T ≡ all_taken S bytes = is ∙ ap (λ M. all_taken M bytes) same in
    rw text (ap (λ U. U.setup) all, ap (λ U. U.faults) all)
