use Rattle.std.proofs.Common.{◌≡◌, ◌++◌, filter, map, take}
use Rattle.reports.specs.declared.reports.loans.Phase.TheVariants.{Out}
use Rattle.reports.specs.LoanLists.{is_at}
use Rattle.reports.specs.Terms.{agreement_with}
use Rattle.reports.proofs.reports.dues.add_owed.Given as goal

abbrev pub invariant-loop-i : goal.invariant-loop-i
invariant-loop-i l =
    l.found.items ≡ l.fn.found.items
    ++ map (λ o. record { loan = l.terms.loan; object = o })
    (filter (is_at l.ledger (agreement_with l.terms) Out) (take l.i l.terms.objects.now))
