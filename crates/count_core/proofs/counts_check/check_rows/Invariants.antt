use Rattle.std.proofs.Common.{◌≡◌, ◌+◌, ◌≤◌, ℕ, List, Some, length}
use Rattle.csv.specs.Reading.{reader_state, source_of, strip_bom}
use Rattle.nest_core.specs.RowReading.{TakesRows}
use Rattle.count_core.proofs.CountProgress.{IsUpTo}
use Rattle.count_core.proofs.counts_check.check_rows.Given as goal

-- The rows before this one are checked, each of at least one byte, and the reader is after them.
abbrev pub invariant-loop-before : goal.invariant-loop-before
invariant-loop-before l = TakesRows l.reader
    × (xs : List ℕ) × (source_of (λ s. Some s.now) l.reader ≡ Some xs)
    × IsUpTo (strip_bom l.fn.bytes) l.check.rows l.check.faults.items l.before
    (reader_state l.reader) xs
    × (l.before + length xs ≤ length l.fn.bytes)
    × (l.check.rows ≤ l.before)
