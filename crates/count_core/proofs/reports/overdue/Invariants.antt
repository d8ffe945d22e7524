use Rattle.std.proofs.Common.{◌≡◌, filter, take}
use Rattle.posting_core.specs.Book.{loans_in}
use Rattle.count_core.specs.Reports.{is_overdue}
use Rattle.count_core.proofs.reports.overdue.Given as goal

abbrev pub invariant-loop-i : goal.invariant-loop-i
invariant-loop-i l = l.loans.items ≡ filter (is_overdue l.ledger l.day)
    (take l.i (loans_in l.ledger))
