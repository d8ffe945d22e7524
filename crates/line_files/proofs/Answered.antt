-- Rows with their answers.
use Rattle.std.specs.Prelude.{ℕ, ◌≡◌, Contains, List, [], ◌∷◌, Option, Some, None, slice_get}
use Rattle.std.specs.Prelude.{zero, suc}
use Rattle.std.specs.List.{cons_option, filter_map, zip}
use Rattle.std.proofs.Common.{ap, sym, ◌∙◌, subst}
use Rattle.count_core.specs.declared.answer.CountAnswer.{CountAnswer}
use Rattle.count_core.specs.declared.count_row.CountRow.{CountRow}
use Rattle.count_core.proofs.Membership.{here, there}

-- the result for row i and its answer is among the results for all rows
pub comes_of : {A : Type 0} (f : CountRow → CountAnswer → Option A) (rows : List CountRow)
    (found : List CountAnswer) (s : A) (i : ℕ) (row : CountRow) (a : CountAnswer)
    → slice_get rows i ≡ Some row → slice_get found i ≡ Some a → f row a ≡ Some s
    → Contains (filter_map (λ (r, b). f r b) (zip rows found)) s
comes_of f [] found s i row a at its is = absurd (cc)
comes_of f (r ∷ rows) [] s i row a at its is = absurd (cc)
comes_of f (r ∷ rows) (b ∷ found) s zero row a at its is =
    let one : r ≡ row = cc in
    let other : b ≡ a = cc in
    let first : f r b ≡ Some s = ap (λ x. f x b) one ∙ (ap (f row) other ∙ is) in
    let rest = filter_map (λ (r, b). f r b) (zip rows found) in
    subst (λ o. Contains (cons_option o rest) s) (sym first) (here s rest)
comes_of {A} f (r ∷ rows) (b ∷ found) s (suc i) row a at its is =
    by (f r b) (comes_of f rows found s i row a at its is)
  where
    by : (o : Option A) → Contains (filter_map (λ (r, b). f r b) (zip rows found)) s
        → Contains (cons_option o (filter_map (λ (r, b). f r b) (zip rows found))) s
    by None k = k
    by (Some t) k = there t s (filter_map (λ (r, b). f r b) (zip rows found)) k
