use Rattle.std.proofs.Common.{◌≡◌, ◌≤◌, filter, length}
use Rattle.std.specs.List.{range_with_len}
use Rattle.reports.specs.GrowthTexts.{is_rehomed}
use Rattle.reports.proofs.setups.growth_counts.count_rehomed.Given as goal

abbrev pub invariant-loop-thing : goal.invariant-loop-thing
invariant-loop-thing l =
    (l.count ≡ length (filter (is_rehomed l.before l.after) (range_with_len 0 l.thing)))
    × (l.count ≤ l.thing)
