-- How far a reader has come in the rows of a labels file.
use Rattle.std.specs.Prelude.{◌≡◌, ℕ, ◌+◌, ◌<◌, ◌≤◌, List, [], ◌∷◌, ◌++◌, length, take, drop}
use Rattle.std.specs.Prelude.{Option}
use Rattle.std.specs.Prelude.{Some, None, String, Vec, map, string_bytes, zero, suc, refl}
use Rattle.std.specs.declared.alloc.Global.{Global}
use Rattle.std.proofs.Common.{arith, ap, get_or, sym, ◌∙◌}
use Rattle.std.proofs.lemmas.List.{drop_all, get_or-map, length-map, length-take-le, take_all}
use Rattle.std.proofs.lemmas.List.{take_more}
use Rattle.std.proofs.lemmas.List.Elements.{filter_map-append}
use Rattle.std.specs.Option.{option_or, option_to_list}
use Rattle.table_core.proofs.Growing.{as_list}
use Rattle.nest_core.specs.Museum.{Museum}
use Rattle.nest_core.specs.SetupRows.{Fields}
use Rattle.table_core.specs.Labels.{Label}
use Rattle.table_core.specs.LabelRows.{first_fault, label_in, labels_in, row_fault}
use Rattle.table_core.specs.LabelRows.{texts_of}
use Rattle.table_core.specs.declared.labels.row.Columns.{Columns}
use Rattle.table_core.specs.declared.labels.fault.LabelFault.{LabelFault}

drop_next : (rows : List Fields) (i : ℕ) (d : Fields) → i < length rows
    → drop i rows ≡ get_or rows i d ∷ drop (suc i) rows
drop_next [] i d h = absurd (omega arith)
drop_next (row ∷ rows) zero d h = refl
drop_next (row ∷ rows) (suc i) d h = drop_next rows i d (omega arith)

-- the texts of a row
pub texts_at : (rows : List (Vec (String Global) Global)) (i : ℕ)
    (row : Vec (String Global) Global) → i < length rows → row ≡ get_or rows i row
    → map string_bytes row.items ≡ get_or (texts_of rows) i (map string_bytes row.items)
texts_at rows i row within is =
    ap (λ (r : Vec (String Global) Global). map string_bytes r.items) is
    ∙ sym (get_or-map (λ (r : Vec (String Global) Global). map string_bytes r.items) rows i row _
    within)

pub texts_count : (rows : List (Vec (String Global) Global))
    → length (texts_of rows) ≡ length rows
texts_count rows =
    length-map rows (λ (r : Vec (String Global) Global). map string_bytes r.items)

-- The first i rows have no fault, and list the labels that are kept.
pub record IsUpTo (S : Museum) (columns : Columns) (rows : List Fields) (kept : List Label)
    (i : ℕ) : Type 0 where
  pub labels : kept ≡ labels_in columns (take i rows)
  pub fault : first_fault S columns [] rows ≡ first_fault S columns (take i rows) (drop i rows)

module _ (S : Museum) (columns : Columns) (rows : List Fields) where
  pub at_start : IsUpTo S columns rows [] 0
  at_start = record { labels = refl; fault = refl }

  module _ (kept : List Label) (i : ℕ) (row : Fields) (within : i < length rows)
      (is : row ≡ get_or rows i row) (up : IsUpTo S columns rows kept i) where
    next_row : drop i rows ≡ row ∷ drop (suc i) rows
    next_row = drop_next rows i row within ∙ ap (λ r. r ∷ drop (suc i) rows) (sym is)

    one_taken : take (i + 1) rows ≡ take i rows ++ row ∷ []
    one_taken = take_more rows i row within ∙ ap (λ r. take i rows ++ r ∷ []) (sym is)

    -- the fault of this row, by the definition
    here_is : (o : Option LabelFault) → row_fault S kept (i + 2) (label_in columns row) ≡ o
        → first_fault S columns [] rows
        ≡ option_or o (first_fault S columns (take i rows ++ row ∷ []) (drop (suc i) rows))
    here_is o e =
        let number : length (take i rows) ≡ i = length-take-le i rows (omega (arith, within)) in
        up.fault ∙ ap (first_fault S columns (take i rows)) next_row
        ∙ ap (λ p. option_or p
        (first_fault S columns (take i rows ++ row ∷ []) (drop (suc i) rows)))
        (ap (λ n. row_fault S (labels_in columns (take i rows)) (n + 2) (label_in columns row))
        number
        ∙ ap (λ ks. row_fault S ks (i + 2) (label_in columns row)) (sym up.labels) ∙ e)

    -- a row with a fault
    pub fault_here : (fault : LabelFault)
        → row_fault S kept (i + 2) (label_in columns row) ≡ Some fault
        → first_fault S columns [] rows ≡ Some fault
    fault_here fault e = here_is (Some fault) e

    -- a row without
    pub one_more : (next : List Label)
        → row_fault S kept (i + 2) (label_in columns row) ≡ None
        → next ≡ kept ++ option_to_list (label_in columns row)
        → IsUpTo S columns rows next (i + 1)
    one_more next e with =
        let step : suc i ≡ i + 1 = omega arith in
        record {
          labels = with
              ∙ ap (λ ks. ks ++ option_to_list (label_in columns row)) up.labels
              ∙ ap (λ ks. labels_in columns (take i rows) ++ ks)
              (sym (as_list (label_in columns row)))
              ∙ sym (filter_map-append (label_in columns) (take i rows) (row ∷ []))
              ∙ ap (labels_in columns) (sym one_taken);
          fault = here_is None e
              ∙ ap (λ rs. first_fault S columns rs (drop (suc i) rows)) (sym one_taken)
              ∙ ap (λ n. first_fault S columns (take (i + 1) rows) (drop n rows)) step;
        }

  -- no more rows
  pub at_end : (kept : List Label) (i : ℕ) → length rows ≤ i → IsUpTo S columns rows kept i
      → (first_fault S columns [] rows ≡ None) × (kept ≡ labels_in columns rows)
  at_end kept i all up = (
    up.fault ∙ ap (first_fault S columns (take i rows)) (drop_all i rows all),
    up.labels ∙ ap (labels_in columns) (take_all i rows all),
  )
