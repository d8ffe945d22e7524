use Rattle.std.proofs.Common.{take}
use Rattle.std.specs.Io.KnownBytes.{Appends}
use Rattle.reports.specs.Writes.{rows_text}
use Rattle.reports.proofs.sections.rows.write_rows.Given as goal

abbrev pub invariant-loop-i : goal.invariant-loop-i
invariant-loop-i g l =
    Appends (g.W.Write.contents l.fn.out) (g.W.Write.contents l.out)
    (rows_text (take l.i (g.R.Rows.texts l.rows)))
