-- The fields of a row.
use Rattle.std.specs.Prelude.{◌≡◌, ℕ, ◌+◌, ◌<◌, ◌==◌, true, false, cond, List, [], ◌∷◌, ◌++◌}
use Rattle.std.specs.Prelude.{length, Option, Some, None, option_map, unwrap_or, zero, suc, refl}
use Rattle.std.specs.Prelude.{take, get_or, slice_get}
use Rattle.std.proofs.Common.{Bor, arith, ap, sym, ◌∙◌}
use Rattle.std.proofs.lemmas.Bool.Decides.{nat_tests}
use Rattle.std.proofs.lemmas.Option.{unwrap_or-slice_get}
use Rattle.std.proofs.lemmas.List.{take_more, length-take-le}
use Rattle.csv.specs.Records.{field_at}
use Rattle.nest_core.specs.SetupRows.{Fields, field, field_count}

-- `csv` returns the field that the list has at this index
field_at-is : (row : Fields) (i : ℕ) → field_at row i ≡ slice_get row i
unfolding field_at
field_at-is [] i = refl
field_at-is (f ∷ fs) zero = refl
field_at-is (f ∷ fs) (suc i) = field_at-is fs i

-- a field, or an empty one if the row is shorter
pub field_found : (row : Fields) (i : ℕ) (found : Option (Bor (List ℕ))) (none : Bor (List ℕ))
    → none.now ≡ [] → option_map (λ f. f.now) found ≡ field_at row i
    → (unwrap_or found none).now ≡ field row i
field_found row i found none empty at =
    by found at ∙ ap (λ o. unwrap_or o []) (field_at-is row i)
  where
    by : (o : Option (Bor (List ℕ))) → option_map (λ f. f.now) o ≡ field_at row i
        → (unwrap_or o none).now ≡ unwrap_or (field_at row i) []
    by None e = empty ∙ ap (λ o. unwrap_or o []) e
    by (Some f) e = ap (λ o. unwrap_or o []) e

-- one more field counts if it isn't empty
pub field_count-push : (row : Fields) (f : List ℕ)
    → field_count (row ++ f ∷ []) ≡ cond (length f == 0) (field_count row) (length row + 1)
field_count-push [] f = refl
field_count-push (g ∷ gs) f =
    let rest = field_count-push gs f in
    elim (length f == 0) as (λ t. field_count (gs ++ f ∷ []) ≡ cond t (field_count gs)
    (length gs + 1) → field_count (g ∷ gs ++ f ∷ []) ≡ cond t (field_count (g ∷ gs))
    (length (g ∷ gs) + 1)) [
      | true ↦ λ e. rw e refl
      | false ↦ λ e. rw e (let some : (length gs + 1 == 0) ≡ false = grind (arith, nat_tests) in rw
          some (omega arith))
    ] rest

-- the count of the fields up to one more
pub field_count-more : (row : Fields) (i n count next : ℕ) (f : List ℕ) → n ≡ length row → i < n
    → f ≡ field row i → count ≡ field_count (take i row)
    → next ≡ cond (length f == 0) count (i + 1) → next ≡ field_count (take (i + 1) row)
field_count-more row i n count next f len inside at before is =
    let within : i < length row = omega arith in
    let f_is : f ≡ get_or row i [] = at ∙ unwrap_or-slice_get row i [] in
    let taken : length (take i row) ≡ i = length-take-le i row (omega arith) in
    let pushed : field_count (take i row ++ f ∷ []) ≡ cond (length f == 0)
    (field_count (take i row)) (length (take i row) + 1) = field_count-push (take i row) f in
    is ∙ rw (before) (sym (rw (take_more row i [] within, ← f_is) (pushed ∙ rw taken refl)))
