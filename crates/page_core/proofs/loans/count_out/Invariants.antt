use Rattle.std.proofs.Common.{◌≡◌, ◌≤◌, filter, length, take}
use Rattle.reports.specs.Terms.{agreement_with, is_out}
use Rattle.page_core.proofs.loans.count_out.Given as goal

abbrev pub invariant-loop-i : goal.invariant-loop-i
invariant-loop-i l =
    (l.count ≡ length
    (filter (is_out l.ledger (agreement_with l.terms)) (take l.i l.terms.objects.now)))
    × (l.count ≤ l.i)
