use Rattle.std.proofs.Common.{◌≡◌}
use Rattle.std.specs.List.{filter_map, range_with_len}
use Rattle.count_core.specs.Inside.{outer_place}
use Rattle.count_core.proofs.outer.outer_places.Given as goal

abbrev pub invariant-loop-end : goal.invariant-loop-end
invariant-loop-end l = l.places.items ≡ filter_map (outer_place l.setup l.text)
    (range_with_len 0 l.end)
