use Rattle.std.proofs.Common.{◌≡◌, ◌≤◌, filter, length, not, take}
use Rattle.nest_core.specs.Museum.{is_container}
use Rattle.page_core.proofs.counts.count_objects.Given as goal

abbrev pub invariant-loop-i : goal.invariant-loop-i
invariant-loop-i l =
    (l.count ≡ length (filter (λ x. not (is_container l.setup x)) (take l.i l.things)))
    × (l.count ≤ l.i)
