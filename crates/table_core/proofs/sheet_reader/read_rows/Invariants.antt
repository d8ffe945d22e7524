use Rattle.std.proofs.Common.{◌≡◌, ℕ, List, Some}
use Rattle.csv.specs.Reading.{Ready, reader_config, reader_state, reader_trim, source_of}
use Rattle.csv.specs.Reading.{strip_bom}
use Rattle.csv.specs.declared.reader.Trim.TheVariants as trim
use Rattle.table_core.specs.Sheets.{parted_by, texts_of}
use Rattle.table_core.proofs.Rows.{IsUpTo}
use Rattle.table_core.proofs.sheet_reader.read_rows.Given as goal

-- the rows before this one are kept, and the reader is after them
abbrev pub invariant-loop-turn : goal.invariant-loop-turn
invariant-loop-turn l = (reader_trim l.reader ≡ trim.None) × Ready l.reader
    × (reader_config l.reader ≡ parted_by l.separator)
    × (xs : List ℕ) × (source_of (λ s. Some s.now) l.reader ≡ Some xs)
    × IsUpTo (parted_by l.separator) (strip_bom l.bytes) (texts_of l.rows.items)
    (reader_state l.reader) xs
