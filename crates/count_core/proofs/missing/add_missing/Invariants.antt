use Rattle.std.proofs.Common.{◌≡◌, ◌++◌, map, take}
use Rattle.count_core.specs.Counts.{missing_at}
use Rattle.count_core.proofs.missing.add_missing.Given as goal

abbrev pub invariant-loop-i : goal.invariant-loop-i
invariant-loop-i l = l.missing.items ≡ l.initial.missing.items ++ map (missing_at l.place)
    (take l.i l.objects)
