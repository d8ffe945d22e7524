use Rattle.std.proofs.Common.{◌≡◌, ◌<◌, All, filter, length}
use Rattle.std.specs.List.{range_with_len}
use Rattle.count_core.specs.Reports.{is_in}
use Rattle.count_core.proofs.reports.in_place.Given as goal

abbrev pub invariant-loop-thing : goal.invariant-loop-thing
invariant-loop-thing l =
    (l.things.items ≡ filter (is_in l.ledger l.place) (range_with_len 0 l.thing))
    × All (λ x. x < length l.ledger.museum.things) l.things.items
