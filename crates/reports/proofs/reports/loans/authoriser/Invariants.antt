use Rattle.std.proofs.Common.{◌≡◌, option_map, reverse, take}
use Rattle.reports.specs.LoanLists.{authoriser}
use Rattle.reports.proofs.reports.loans.authoriser.Given as goal

abbrev pub invariant-loop-i : goal.invariant-loop-i
invariant-loop-i l =
    option_map (λ name. name.now) l.found ≡ authoriser (reverse (take l.i l.posted)) l.loan
