use Rattle.std.proofs.Common.{◌≡◌, drop}
use Rattle.posting_core.specs.LoanRows.{with_lines}
use Rattle.posting_core.proofs.kept_loan.KeptLoan.cross.Given as goal

abbrev pub invariant-loop-i : goal.invariant-loop-i
invariant-loop-i l = with_lines (drop l.i l.lines) l.self ≡ with_lines l.lines l.initial.self
