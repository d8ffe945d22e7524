use Rattle.std.proofs.Common.{◌≡◌, ◌≤◌, filter, length, not}
use Rattle.std.specs.List.{range_with_len}
use Rattle.nest_core.specs.Museum.{is_container}
use Rattle.page_core.proofs.counts.objects_of.Given as goal

abbrev pub invariant-loop-thing : goal.invariant-loop-thing
invariant-loop-thing l =
    (l.count ≡ length (filter (λ x. not (is_container l.setup x)) (range_with_len 0 l.thing)))
    × (l.count ≤ l.thing)
