use Rattle.std.proofs.Common.{◌≡◌, All, filter, map}
use Rattle.std.specs.List.{range_with_len}
use Rattle.count_core.specs.Reports.{is_away, away_object, IsAwayIn}
use Rattle.count_core.proofs.reports.away.Given as goal

abbrev pub invariant-loop-object : goal.invariant-loop-object
invariant-loop-object l =
    (l.objects.items ≡ map (away_object l.ledger)
    (filter (is_away l.ledger) (range_with_len 0 l.object)))
    × All (IsAwayIn l.ledger.museum) l.objects.items
