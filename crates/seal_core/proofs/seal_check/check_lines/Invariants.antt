use Rattle.seal_core.specs.SealChecks.{AreChecked}
use Rattle.seal_core.proofs.Rows.{lines_to}
use Rattle.seal_core.proofs.seal_check.check_lines.Given as goal

abbrev pub invariant-loop-i : goal.invariant-loop-i
invariant-loop-i g l = AreChecked l.ledger 1 (lines_to l.pieces l.i) l.rows.items
