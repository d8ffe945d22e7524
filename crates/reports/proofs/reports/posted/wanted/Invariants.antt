use Rattle.std.proofs.Common.{◌≡◌, ◌<◌, All, filter, length}
use Rattle.std.specs.List.{range_with_len}
use Rattle.reports.specs.EntryFilters.{is_wanted_at}
use Rattle.reports.proofs.reports.posted.wanted.Given as goal

abbrev pub invariant-loop-i : goal.invariant-loop-i
invariant-loop-i l =
    (l.found.items ≡ filter (is_wanted_at l.ledger l.asked) (range_with_len 0 l.i))
    × All (λ i. i < length l.ledger.posted) l.found.items
