-- Without labels each row stays as it is.
use Rattle.std.specs.Prelude.{ℕ, ◌≡◌, Bool, true, false, List, [], ◌∷◌, map, refl}
use Rattle.std.specs.Prelude.{if◌then◌else◌}
use Rattle.std.specs.Str.{is_utf8}
use Rattle.std.proofs.Common.{ap, ap₂}
use Rattle.table_core.specs.Tables.{Texts}
use Rattle.table_core.specs.SheetLines.{coded, coded_rows}

either : (b : Bool) (field : List ℕ) → (if b then field else field) ≡ field
either true field = refl
either false field = refl

row_left : (row : List (List ℕ)) → map (coded []) row ≡ row
row_left [] = refl
row_left (f ∷ fs) =
    ap₂ (λ (x : List ℕ) (xs : List (List ℕ)). x ∷ xs) (either (is_utf8 f) f) (row_left fs)

rows_left : (rows : Texts) → map (map (coded [])) rows ≡ rows
rows_left [] = refl
rows_left (r ∷ rs) =
    ap₂ (λ (x : List (List ℕ)) (xs : Texts). x ∷ xs) (row_left r) (rows_left rs)

pub rows_uncoded : (rows : Texts) → coded_rows [] rows ≡ rows
rows_uncoded [] = refl
rows_uncoded (heading ∷ rows) = ap (λ (rs : Texts). heading ∷ rs) (rows_left rows)
