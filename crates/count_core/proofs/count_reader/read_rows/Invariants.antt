use Rattle.std.proofs.Common.{◌≡◌, ℕ, List, Some}
use Rattle.csv.specs.Reading.{Ready, default_config, reader_config, reader_state, reader_trim}
use Rattle.csv.specs.Reading.{source_of, strip_bom}
use Rattle.csv.specs.declared.reader.Trim.TheVariants as trim
use Rattle.count_core.proofs.CountReading.{IsUpTo}
use Rattle.count_core.proofs.count_reader.read_rows.Given as goal

-- the rows before this one are kept, and the reader is after them
abbrev pub invariant-loop-number : goal.invariant-loop-number
invariant-loop-number l = (reader_trim l.reader ≡ trim.None) × Ready l.reader
    × (reader_config l.reader ≡ default_config)
    × (xs : List ℕ) × (source_of (λ s. Some s.now) l.reader ≡ Some xs)
    × IsUpTo (strip_bom l.bytes) l.kept.items l.number (reader_state l.reader) xs
