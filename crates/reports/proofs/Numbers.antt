-- The numbers that pass a test, with one more number tested.
use Rattle.std.specs.Prelude.{ℕ, ◌≡◌, ◌+◌, Bool, true, false, List, [], ◌∷◌, ◌++◌, filter}
use Rattle.std.specs.Prelude.{map}
use Rattle.std.proofs.Common.{ap, sym, ◌∙◌}
use Rattle.std.proofs.lemmas.List.{map-append}
use Rattle.std.specs.List.{range_with_len}
use Rattle.count_core.proofs.Ranges.{filter_with, filter_without}
use Rattle.reports.specs.Lines.{lines}
use Rattle.reports.proofs.SetupRows.{lines_more}

-- a line for it
pub line_with : (f : ℕ → List ℕ) (p : ℕ → Bool) (mark start old new row : List ℕ) (n : ℕ)
    → p n ≡ true → row ≡ f n → old ≡ start ++ lines mark (map f (filter p (range_with_len 0 n)))
    → new ≡ old ++ lines mark (row ∷ [])
    → new ≡ start ++ lines mark (map f (filter p (range_with_len 0 (n + 1))))
line_with f p mark start old new row n passes same is more =
    lines_more mark start old new row (map f (filter p (range_with_len 0 n))) is more
    ∙ ap (λ rows. start ++ lines mark rows)
    (ap (λ r. map f (filter p (range_with_len 0 n)) ++ r ∷ []) same
    ∙ sym (ap (map f) (filter_with p n passes)
    ∙ map-append f (filter p (range_with_len 0 n)) (n ∷ [])))

-- no line for it
pub line_without : (f : ℕ → List ℕ) (p : ℕ → Bool) (mark start text : List ℕ) (n : ℕ)
    → p n ≡ false → text ≡ start ++ lines mark (map f (filter p (range_with_len 0 n)))
    → text ≡ start ++ lines mark (map f (filter p (range_with_len 0 (n + 1))))
line_without f p mark start text n fails is =
    is ∙ ap (λ xs. start ++ lines mark (map f xs)) (sym (filter_without p n fails))
