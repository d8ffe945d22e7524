-- If a row is none of the wanted ones, the rows aren't the wanted ones.
use Rattle.std.proofs.Common.{inl, inr, ◌≡◌, ◌≢◌, ◌<◌, ◌≤◌, ◌+◌, ℕ, zero, suc, ℤ, List, [], ◌∷◌}
use Rattle.std.proofs.Common.{length, map, slice_index_or, Bool, true, false, refl, sym, ap, subst}
use Rattle.std.proofs.Common.{◌∙◌, arith, ltb, ltb-true, ltb-false}
use Rattle.std.specs.Bool.{Decides}
use Rattle.std.specs.List.{AllByRecursion}
use Rattle.std.specs.List.Sorted.{IsPermutation}
use Rattle.std.proofs.lemmas.List.Sorted.{IsPermutation-map, IsPermutation-trans}
use Rattle.nest_core.specs.Museum.{Museum}
use Rattle.posting_core.specs.declared.entry.Entry.{Entry}
use Rattle.posting_core.specs.declared.entry.NewSpot.{NewSpot}
use Rattle.posting_core.specs.declared.stage.LineStage.{LineStage}
use Rattle.sqlite.specs.Order.{Row}
use Rattle.sqlite_trees.proofs.ListLemmas.{all-permutation, all-get_or}
use Rattle.register_store.proofs.SpotRows.{looking_back}
use Rattle.register_store.specs.declared.loan_rows.LineKey.{LineKey}
use Rattle.register_store.specs.Plain.{held_lines, term_rows}
use Rattle.register_store.specs.StoredRows.{Content, HasRows, spot_row, line_row, all_written}
use Rattle.register_store.specs.StoredRows.{spots_by_thing, lines_by_loan, rows_of_terms}
use Rattle.register_sql.specs.Fits.{IsNoSpot, IsNoLine, IsNoTerm}
use Rattle.register_sql.specs.Found.{AreFound}
use Rattle.register_sql.specs.Rows.{spot_cells, line_cells, term_cells}
use Rattle.register_sql.specs.Strange.{IsNone, HasStranger, AreStrange, cells_of_spot}
use Rattle.register_sql.specs.Strange.{cells_of_line, cells_of_term}
use Rattle.register_sql.proofs.Ascending.{never}
use Rattle.register_sql.proofs.Removed.{map_twice}

default_free : {T : Type 0} (ts : List T) (i : ℕ) (d e : T) → i < length ts
    → slice_index_or ts i d ≡ slice_index_or ts i e
default_free [] i d e low = absurd (omega (arith, low))
default_free (x ∷ xs) zero d e low = refl
default_free (x ∷ xs) (suc i) d e low = default_free xs i d e (omega (arith, low))

always : {P : Type 0} → P → Decides true P
always p = ((λ _. p), λ _. refl)

module _ {T : Type 0} (cells : T → Row) where
  pub none_next : (wanted : List T) (row : Row) (at : ℕ) (t : T) → at < length wanted
      → t ≡ slice_index_or wanted at t → cells t ≢ row → IsNone cells at wanted row
      → IsNone cells (at + 1) wanted row
  none_next wanted row at t inside is other before k d low same = go (ltb k at) refl
    where
      go : (b : Bool) → ltb k at ≡ b → ⊥
      go true less = before k d (ltb-true k at less) same
      go false more =
          let here : k ≡ at = omega (arith, low, ltb-false k at more) in
          let found : slice_index_or wanted k d ≡ t =
          ap (λ i. slice_index_or wanted i d) here ∙ default_free wanted at d t
          inside ∙ sym is in
          other (ap cells (sym found) ∙ same)

  pub none_in_all : (wanted : List T) (row : Row) (at : ℕ) → length wanted ≤ at
      → IsNone cells at wanted row → IsNone cells (length wanted) wanted row
  none_in_all wanted row at high none k d low = none k d (omega (arith, low, high))

  each_other : (wanted : List T) (row : Row) → IsNone cells (length wanted) wanted row
      → AllByRecursion (λ r. r ≢ row) (map cells wanted)
  each_other [] row none = tt
  each_other (t ∷ wanted) row none = (
    none zero t (omega arith),
    each_other wanted row
        (λ k d low. none (suc k) d (omega (arith, low))),
  )

  none_from_all : (wanted : List T) (row : Row) → AllByRecursion (λ r. r ≢ row) (map cells wanted)
      → IsNone cells (length wanted) wanted row
  none_from_all [] row all k d low = absurd (omega (arith, low))
  none_from_all (t ∷ wanted) row all zero d low = all.0
  none_from_all (t ∷ wanted) row all (suc k) d low =
      none_from_all wanted row all.1 k d (omega (arith, low))

  pub found_one : (wanted : List T) (row : Row) (at : ℕ) (t : T) → at < length wanted
      → t ≡ slice_index_or wanted at t → cells t ≡ row
      → Decides false (IsNone cells (length wanted) wanted row)
  found_one wanted row at t low is same = never (λ none. none at t low (ap cells (sym is) ∙ same))

  pub none_at_all : (wanted : List T) (row : Row) (at : ℕ) → length wanted ≤ at
      → IsNone cells at wanted row → Decides true (IsNone cells (length wanted) wanted row)
  none_at_all wanted row at high none = always (none_in_all wanted row at high none)

  module _ (IsNo : Row → Type 0) where
    abbrev pub IsStrange : List T → Row → Type 0
    IsStrange wanted row = IsNo row × IsNone cells (length wanted) wanted row

    abbrev pub NoneBefore : List T → List Row → ℕ → Type 0
    NoneBefore wanted rows at = (k : ℕ) (row : Row) → k < at → row ≡ slice_index_or rows k row
        → ¬ IsStrange wanted row

    pub strange_here : (wanted : List T) (rows : List Row) (at : ℕ) (row : Row) → at < length rows
        → row ≡ slice_index_or rows at row → IsStrange wanted row
        → Decides true (HasStranger IsNo (map cells wanted) rows)
    strange_here wanted rows at row low is it =
        always (at, row, low, is, it.0, each_other wanted row it.1)

    pub none_before_next : (wanted : List T) (rows : List Row) (at : ℕ) (row : Row)
        → at < length rows → row ≡ slice_index_or rows at row → ¬ IsStrange wanted row
        → NoneBefore wanted rows at → NoneBefore wanted rows (at + 1)
    none_before_next wanted rows at row low is other before k r under r_is = go (ltb k at) refl
      where
        go : (b : Bool) → ltb k at ≡ b → ¬ IsStrange wanted r
        go true less = before k r (ltb-true k at less) r_is
        go false more =
            let here : k ≡ at = omega (arith, under, ltb-false k at more) in
            let found : r ≡ row = r_is ∙ ap (λ i. slice_index_or rows i r) here ∙ default_free rows
            at r row low ∙ sym is in
            subst (λ x. ¬ IsStrange wanted x) (sym found) other

    pub none_strange : (wanted : List T) (rows : List Row) (at : ℕ) → length rows ≤ at
        → NoneBefore wanted rows at → Decides false (HasStranger IsNo (map cells wanted) rows)
    none_strange wanted rows at high before =
        never (λ s. before s.0 s.1 (omega (arith, s.2, high)) s.3
        (s.4, none_from_all wanted s.1 s.5))

stranger : (IsNo : Row → Type 0) (wanted rows : List Row) → HasStranger IsNo wanted rows
    → ¬ IsPermutation wanted rows
stranger IsNo wanted rows s same =
    all-get_or (λ r. r ≢ s.1) rows s.0 s.1 (all-permutation (λ r. r ≢ s.1) _ _ same s.5)
    s.2 (sym s.3)

lines_twice : (xs : List (LineKey × LineStage))
    → map line_cells (map line_row (held_lines xs)) ≡ map cells_of_line xs
lines_twice [] = refl
lines_twice (x ∷ xs) = ap (λ l. cells_of_line x ∷ l) (lines_twice xs)

terms_twice : (xs : List (List ℕ × ℤ)) → map term_cells (term_rows xs) ≡ map cells_of_term xs
terms_twice [] = refl
terms_twice (x ∷ xs) = ap (λ l. cells_of_term x ∷ l) (terms_twice xs)

-- so a content with these rows isn't the ledger's
pub strange_spots : (S : Museum) (P : List Entry) (wanted : List NewSpot) (ss ls ts : List Row)
    → wanted ≡ spots_by_thing S P → HasStranger IsNoSpot (map cells_of_spot wanted) ss
    → (d : Content) → AreFound ss ls ts d → ¬ HasRows S P d
strange_spots S P wanted ss ls ts is strange d found has =
    let other = stranger IsNoSpot (map cells_of_spot wanted) ss strange in
    let by_thing : IsPermutation (map spot_row wanted) d.spots =
    IsPermutation-trans _ _ _ (IsPermutation-map spot_row _ _
    (subst (λ l. IsPermutation l (all_written S P)) (sym is) (looking_back S P))) has.spots in
    other (IsPermutation-trans _ _ _
    (subst (λ l. IsPermutation l (map spot_cells d.spots))
    (map_twice spot_cells spot_row wanted) (IsPermutation-map spot_cells _ _ by_thing))
    found.spots)

pub strange_lines : (S : Museum) (P : List Entry) (wanted : List (LineKey × LineStage))
    (ss ls ts : List Row) → held_lines wanted ≡ lines_by_loan S P
    → HasStranger IsNoLine (map cells_of_line wanted) ls → (d : Content) → AreFound ss ls ts d
    → ¬ HasRows S P d
strange_lines S P wanted ss ls ts is strange d found has =
    let other = stranger IsNoLine (map cells_of_line wanted) ls strange in
    let lined : IsPermutation (map line_row (held_lines wanted)) d.lines =
    subst (λ l. IsPermutation (map line_row l) d.lines) (sym is) has.lines in
    let shown : map line_cells (map line_row (held_lines wanted)) ≡ map cells_of_line wanted =
    lines_twice wanted in
    other (IsPermutation-trans _ _ _
    (subst (λ l. IsPermutation l (map line_cells d.lines)) shown
    (IsPermutation-map line_cells _ _ lined)) found.lines)

pub strange_terms : (S : Museum) (P : List Entry) (wanted : List (List ℕ × ℤ)) (ss ls ts : List Row)
    → term_rows wanted ≡ rows_of_terms P → HasStranger IsNoTerm (map cells_of_term wanted) ts
    → (d : Content) → AreFound ss ls ts d → ¬ HasRows S P d
strange_terms S P wanted ss ls ts is strange d found has =
    let other = stranger IsNoTerm (map cells_of_term wanted) ts strange in
    let dated : IsPermutation (term_rows wanted) d.terms =
    subst (λ l. IsPermutation l d.terms) (sym is) has.terms in
    other (IsPermutation-trans _ _ _
    (subst (λ l. IsPermutation l (map term_cells d.terms)) (terms_twice wanted)
    (IsPermutation-map term_cells _ _ dated)) found.terms)

-- the result for one table after another
pub spots_told : (S : Museum) (P : List Entry) (wanted : List NewSpot) (ss ls ts : List Row)
    → wanted ≡ spots_by_thing S P → HasStranger IsNoSpot (map cells_of_spot wanted) ss
    → Decides true (AreStrange S P ss ls ts)
spots_told S P wanted ss ls ts is strange =
    always (inl (subst (λ w. HasStranger IsNoSpot (map cells_of_spot w) ss) is strange))

lines_are : (S : Museum) (P : List Entry) (wanted : List (LineKey × LineStage))
    → held_lines wanted ≡ lines_by_loan S P
    → map cells_of_line wanted ≡ map line_cells (map line_row (lines_by_loan S P))
lines_are S P wanted is = sym (lines_twice wanted) ∙ ap (λ l. map line_cells (map line_row l)) is

pub lines_told : (S : Museum) (P : List Entry) (wanted : List (LineKey × LineStage))
    (ss ls ts : List Row) → held_lines wanted ≡ lines_by_loan S P
    → HasStranger IsNoLine (map cells_of_line wanted) ls → Decides true (AreStrange S P ss ls ts)
lines_told S P wanted ss ls ts is strange =
    always (inr (inl (subst (λ w. HasStranger IsNoLine w ls) (lines_are S P wanted is) strange)))

pub all_told : (S : Museum) (P : List Entry) (spots : List NewSpot)
    (lines : List (LineKey × LineStage)) (terms : List (List ℕ × ℤ))
    (ss ls ts : List Row) (b : Bool)
    → spots ≡ spots_by_thing S P → held_lines lines ≡ lines_by_loan S P
    → term_rows terms ≡ rows_of_terms P
    → ¬ HasStranger IsNoSpot (map cells_of_spot spots) ss
    → ¬ HasStranger IsNoLine (map cells_of_line lines) ls
    → Decides b (HasStranger IsNoTerm (map cells_of_term terms) ts)
    → Decides b (AreStrange S P ss ls ts)
all_told S P spots lines terms ss ls ts b spots_is lines_is terms_is no_spot no_line told =
    ((λ is. inr (inr (there (told.0 is)))), λ strange. back strange)
  where
    terms_are : map cells_of_term terms ≡ map term_cells (rows_of_terms P)
    terms_are = sym (terms_twice terms) ∙ ap (λ l. map term_cells l) terms_is

    there : HasStranger IsNoTerm (map cells_of_term terms) ts
        → HasStranger IsNoTerm (map term_cells (rows_of_terms P)) ts
    there = subst (λ w. HasStranger IsNoTerm w ts) terms_are

    back : AreStrange S P ss ls ts → b ≡ true
    back (inl s) =
        absurd (no_spot (subst (λ w. HasStranger IsNoSpot (map cells_of_spot w) ss)
        (sym spots_is) s))
    back (inr (inl s)) =
        absurd (no_line (subst (λ w. HasStranger IsNoLine w ls)
        (sym (lines_are S P lines lines_is)) s))
    back (inr (inr s)) = told.1 (subst (λ w. HasStranger IsNoTerm w ts) (sym terms_are) s)

pub not_these : (S : Museum) (P : List Entry) (d : Content) → ¬ HasRows S P d
    → Decides false (HasRows S P d)
not_these S P d other = ((λ f. absurd (let e : false ≡ true = f in cc)), λ h. absurd (other h))
