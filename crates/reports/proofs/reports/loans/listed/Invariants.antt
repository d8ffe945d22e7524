use Rattle.std.proofs.Common.{◌≡◌, filter, take}
use Rattle.posting_core.specs.Book.{loans_in}
use Rattle.reports.specs.LoanLists.{is_listed}
use Rattle.reports.proofs.reports.loans.listed.Given as goal

abbrev pub invariant-loop-i : goal.invariant-loop-i
invariant-loop-i l =
    l.loans.items ≡ filter (is_listed l.ledger l.asked) (take l.i (loans_in l.ledger))
