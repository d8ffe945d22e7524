use Rattle.table_core.specs.LabelRows.{texts_of}
use Rattle.table_core.proofs.LabelReading.{IsUpTo}
use Rattle.table_core.proofs.labels.reader.read_rows.Given as goal

-- the rows before this one are kept
abbrev pub invariant-loop-i : goal.invariant-loop-i
invariant-loop-i l = IsUpTo l.setup l.columns (texts_of l.rows) l.labels l.i
