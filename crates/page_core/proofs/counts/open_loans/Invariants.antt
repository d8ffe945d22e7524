use Rattle.std.proofs.Common.{◌≡◌, ◌≤◌, filter, length, take}
use Rattle.posting_core.specs.Book.{loans_in}
use Rattle.reports.specs.LoanLists.{is_open}
use Rattle.page_core.proofs.counts.open_loans.Given as goal

abbrev pub invariant-loop-i : goal.invariant-loop-i
invariant-loop-i l =
    (l.count ≡ length (filter (is_open l.ledger) (take l.i (loans_in l.ledger))))
    × (l.count ≤ l.i)
