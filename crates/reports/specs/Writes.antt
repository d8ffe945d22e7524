-- Defines how much of a text is written, also after a fault.
use Rattle.std.specs.Prelude.{ℕ, List, MatchResult, Option, Result, take}
use Rattle.std.specs.List.{flat_map}
use Rattle.std.specs.Io.KnownBytes.{Appends}
use Rattle.reports.specs.declared.fault.PrintFault.{PrintFault}

-- The beginning of the text is written.
abbrev pub Stops : Option (List ℕ) → Option (List ℕ) → List ℕ → Type 0
Stops old new text = (k : ℕ) × Appends old new (take k text)

-- The whole text is written, or after a fault the beginning of it.
abbrev pub Writes : Option (List ℕ) → Option (List ℕ) → Result Unit PrintFault → List ℕ
    → Type 0
Writes old new result text =
    MatchResult result (λ _. Appends old new text) (λ _. Stops old new text)

-- The texts of several rows, one after another.
abbrev pub rows_text : List (List ℕ) → List ℕ
rows_text texts = flat_map (λ text. text) texts
