-- How far a reader has come in the rows of a table.
use Rattle.std.specs.Prelude.{◌≡◌, ℕ, ◌+◌, ◌<◌, List, [], ◌∷◌, ◌++◌, length, map, take, Option}
use Rattle.std.specs.Prelude.{Some, None}
use Rattle.std.specs.Prelude.{IsSome, String, Vec, false, option_map, slice_get, string_bytes}
use Rattle.std.specs.Prelude.{refl, suc, zero}
use Rattle.std.specs.declared.alloc.Global.{Global}
use Rattle.std.proofs.Common.{Bor, ap, append_assoc, get_or, sym, ◌∙◌}
use Rattle.std.proofs.lemmas.List.{append-nil, map-append, take_more}
use Rattle.std.proofs.lemmas.Option.{get_or_from_slice_get, slice_get-get_or}
use Rattle.csv.specs.Machine.{ends_at_end, next_record}
use Rattle.csv.specs.Reading.{records}
use Rattle.csv.specs.Records.{field_at}
use Rattle.csv.specs.declared.parser.Config.{Config}
use Rattle.csv.specs.declared.parser.State.{State}
use Rattle.csv.specs.declared.parser.State.TheVariants as st
use Rattle.nest_core.proofs.CsvRows.{next_leaves}
use Rattle.table_core.specs.Sheets.{texts_of}
use Rattle.table_core.proofs.CsvRows.{left_at_start, left_none, left_some, rows_left}

-- These rows are read, and the rest is read from this state.
pub record IsUpTo (cfg : Config) (text : List ℕ) (kept : List (List (List ℕ))) (s : State)
    (xs : List ℕ) : Type 0 where
  pub rows : records cfg text ≡ kept ++ rows_left cfg s xs
  pub rests : ends_at_end s ≡ false

pub at_start : (cfg : Config) (text : List ℕ) → IsUpTo cfg text [] st.StartRecord text
at_start cfg text = record { rows = left_at_start cfg text; rests = refl }

-- one more row
pub one_more : (cfg : Config) (text : List ℕ) (kept next : List (List (List ℕ))) (s : State)
    (xs : List ℕ) (row : List (List ℕ)) (t : State) (ys : List ℕ) → IsUpTo cfg text kept s xs
    → next_record cfg s [] [] xs ≡ Some (row, t, ys) → next ≡ kept ++ row ∷ []
    → IsUpTo cfg text next t ys
one_more cfg text kept next s xs row t ys up read is = record {
  rows = up.rows
      ∙ ap (λ rows. kept ++ rows) (left_some cfg s xs (row, t, ys) up.rests read)
      ∙ sym (append_assoc kept (row ∷ []) (rows_left cfg t ys))
      ∙ ap (λ ks. ks ++ rows_left cfg t ys) (sym is);
  rests = (next_leaves cfg s [] [] xs (row, t, ys) read).rests;
}

-- no more rows
pub at_end : (cfg : Config) (text : List ℕ) (kept : List (List (List ℕ))) (s : State)
    (xs : List ℕ) → IsUpTo cfg text kept s xs → next_record cfg s [] [] xs ≡ None
    → kept ≡ records cfg text
at_end cfg text kept s xs up none =
    sym (up.rows ∙ ap (λ rows. kept ++ rows) (left_none cfg s xs none) ∙ append-nil kept)

-- the texts of one more row
pub texts_push : (rows : List (Vec (String Global) Global)) (row : Vec (String Global) Global)
    (fields : List (List ℕ)) → map string_bytes row.items ≡ fields
    → texts_of (rows ++ row ∷ []) ≡ texts_of rows ++ fields ∷ []
texts_push rows row fields is =
    map-append (λ (r : Vec (String Global) Global). map string_bytes r.items) rows (row ∷ [])
    ∙ ap (λ f. texts_of rows ++ f ∷ []) is

-- the texts of the fields up to one more
pub fields_more : (fields : List (List ℕ)) (i : ℕ) (row : List (String Global))
    (new : String Global) → i < length fields → slice_get fields i ≡ Some (string_bytes new)
    → map string_bytes row ≡ take i fields
    → map string_bytes (row ++ new ∷ []) ≡ take (i + 1) fields
fields_more fields i row new within at before =
    map-append string_bytes row (new ∷ [])
    ∙ ap (λ fs. fs ++ string_bytes new ∷ []) before
    ∙ ap (λ f. take i fields ++ f ∷ [])
    (sym (get_or_from_slice_get fields i (string_bytes new) (string_bytes new) at))
    ∙ sym (take_more fields i (string_bytes new) within)

-- `csv` returns the field that the list has at this index
pub field_at-is : (fields : List (List ℕ)) (i : ℕ) → field_at fields i ≡ slice_get fields i
unfolding field_at
field_at-is [] i = refl
field_at-is (f ∷ fs) zero = refl
field_at-is (f ∷ fs) (suc i) = field_at-is fs i

-- a field of the record is found
pub is_found : (fields : List (List ℕ)) (i : ℕ) (found : Option (Bor (List ℕ)))
    → i < length fields → option_map (λ f. f.now) found ≡ field_at fields i → IsSome found
is_found fields i None within at = absurd
    (let no : None ≡ Some (get_or fields i []) =
    at ∙ field_at-is fields i ∙ slice_get-get_or fields i [] within in cc)
is_found fields i (Some f) within at = refl
