use Rattle.std.proofs.Common.{◌≡◌, ◌≤◌, drop, false, length}
use Rattle.export_core.specs.Setups.{has_dash}
use Rattle.export_core.proofs.places.last_dash.Given as goal

-- there is no dash from here on
abbrev pub invariant-loop-end : goal.invariant-loop-end
invariant-loop-end l = (l.end ≤ length l.code) × (has_dash (drop l.end l.code) ≡ false)

abbrev pub decreases-loop-end : goal.decreases-loop-end
decreases-loop-end l = l.end
