use Rattle.std.proofs.Common.{◌≡◌, [], filter, take}
use Rattle.std.specs.List.{flat_map}
use Rattle.std.specs.Option.{option_map_or}
use Rattle.posting_core.specs.Agreements.{agreement}
use Rattle.posting_core.specs.Book.{loans_in}
use Rattle.reports.specs.LoanLists.{dues_of, ends_by}
use Rattle.reports.proofs.reports.dues.list_dues.Given as goal

abbrev pub invariant-loop-i : goal.invariant-loop-i
invariant-loop-i l =
    l.found.items
    ≡ flat_map (λ loan. option_map_or (dues_of l.ledger) (agreement l.ledger.posted loan) [])
    (filter (ends_by l.ledger l.day) (take l.i (loans_in l.ledger)))
