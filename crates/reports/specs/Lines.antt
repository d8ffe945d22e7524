-- Defines how rows become text.
use Rattle.std.specs.Prelude.{ℕ, ◌++◌, ◌∷◌, [], List, flat_map}

-- Each row on a line of its own, behind the mark.
abbrev pub lines : List ℕ → List (List ℕ) → List ℕ
lines mark rows = flat_map (λ row. mark ++ row ++ 10 ∷ []) rows
