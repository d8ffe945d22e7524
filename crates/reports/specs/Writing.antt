-- Defines what a writer got of a text that was made as a whole.
use Rattle.std.specs.Prelude.{ℕ, [], List, MatchResult, Option, Result, take}
use Rattle.std.specs.Io.KnownBytes.{Appends}
use Rattle.reports.specs.declared.fault.PrintFault.{PrintFault}
use Rattle.reports.specs.declared.fault.PrintFault.TheVariants.{NoMemory, WriteFailed}

-- Nothing is written if memory ran out, and a prefix of the text if the writer failed.
abbrev pub Stops : Option (List ℕ) → Option (List ℕ) → List ℕ → PrintFault → Type 0
Stops old new text NoMemory = Appends old new []
Stops old new text WriteFailed = (k : ℕ) × Appends old new (take k text)

-- The writer got exactly the text, or stopped at this fault.
abbrev pub Prints : Option (List ℕ) → Option (List ℕ) → Result Unit PrintFault → List ℕ → Type 0
Prints old new result text =
    MatchResult result (λ _. Appends old new text) (Stops old new text)
