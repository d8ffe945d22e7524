use Rattle.std.proofs.Common.{◌≡◌, ◌+◌, ◌≤◌, ℕ, List, Some, length}
use Rattle.csv.specs.Reading.{reader_state, source_of, strip_bom}
use Rattle.nest_core.specs.RowReading.{TakesRows}
use Rattle.nest_core.proofs.FurtherRows.{IsFurtherTo}
use Rattle.nest_core.proofs.setup_growing.take_rows.Given as goal

-- The rows before this one are done, each of at least one byte, and the reader is after them.
abbrev pub invariant-loop-before : goal.invariant-loop-before
invariant-loop-before l = TakesRows l.reader
    × (xs : List ℕ) × (source_of (λ s. Some s.now) l.reader ≡ Some xs)
    × IsFurtherTo (strip_bom l.fn.bytes) l.fn.taking l.taking (reader_state l.reader) xs
    × (l.before + length xs ≤ length l.fn.bytes)
    × (l.taking.row ≡ l.before)
