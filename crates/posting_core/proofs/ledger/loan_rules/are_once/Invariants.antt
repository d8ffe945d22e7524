use Rattle.std.proofs.Common.{take}
use Rattle.posting_core.specs.LoanRows.{AreOnce}
use Rattle.posting_core.proofs.ledger.loan_rules.are_once.Given as goal

abbrev pub invariant-loop-i : goal.invariant-loop-i
invariant-loop-i l = AreOnce (take l.i l.numbers)
