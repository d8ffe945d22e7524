-- Defines the states of a `csv` reader that a setup is read with.
use Rattle.std.specs.Borrow.{Bor}
use Rattle.std.specs.Prelude.{◌≡◌, List, ℕ, true, Some}
use Rattle.csv.specs.Reading.{Ready, default_config, is_flexible, reader_config, reader_state}
use Rattle.csv.specs.Reading.{reader_trim, source_of, strip_bom}
use Rattle.csv.specs.declared.parser.State.TheVariants as st
use Rattle.csv.specs.declared.reader.Reader.{Reader}
use Rattle.csv.specs.declared.reader.Trim.TheVariants as trim

-- The reader is in memory, has no header, trims nothing and takes rows of any length.
abbrev pub TakesRows : Reader (Bor (List ℕ)) → Type 0
TakesRows reader =
    (reader_trim reader ≡ trim.None) × Ready reader × (reader_config reader ≡ default_config)
    × (is_flexible reader ≡ true)

-- It also has these bytes to read, and is before their first row.
abbrev pub ReadsRows : Reader (Bor (List ℕ)) → List ℕ → Type 0
ReadsRows reader bytes =
    TakesRows reader × (reader_state reader ≡ st.StartRecord)
    × (source_of (λ s. Some s.now) reader ≡ Some (strip_bom bytes))
