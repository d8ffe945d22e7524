use Rattle.std.proofs.Common.{◌≡◌, ◌≤◌, filter, length}
use Rattle.std.specs.List.{range_with_len}
use Rattle.nest_core.specs.Museum.{is_container}
use Rattle.count_core.proofs.summary.boxes.Given as goal

-- the containers among the things so far are counted
abbrev pub invariant-loop-thing : goal.invariant-loop-thing
invariant-loop-thing l =
    (l.count ≡ length (filter (is_container l.setup) (range_with_len 0 l.thing)))
    × (l.count ≤ l.thing)
