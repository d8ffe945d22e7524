use Rattle.std.proofs.Common.{◌≡◌, take}
use Rattle.reports.specs.LoanLists.{count_lines}
use Rattle.reports.specs.Terms.{agreement_with}
use Rattle.reports.proofs.reports.loans.count_lines.Given as goal

abbrev pub invariant-loop-i : goal.invariant-loop-i
invariant-loop-i l = l.count
    ≡ count_lines l.ledger (agreement_with l.terms) l.phase (take l.i l.terms.objects.now)
