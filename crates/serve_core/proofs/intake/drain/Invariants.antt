use Rattle.std.proofs.Common.{◌≡◌, ◌+◌, List, ◌++◌, length}
use Rattle.rtrb.specs.Ring.{known_items}
use Rattle.serve_core.specs.declared.item.LogLine.{LogLine}
use Rattle.serve_core.specs.Logs.{Serves}
use Rattle.serve_core.specs.Lanes.{TakesOf, received_is, end_items, IsEndOn}
use Rattle.serve_core.proofs.intake.drain.Given as goal

abbrev pub invariant-loop : goal.invariant-loop
invariant-loop g l =
    (G : List LogLine) × (l.lines.items ≡ l.fn.lines.items ++ G)
    × Serves g.R.Register.holding l.fn.hub l.hub G × TakesOf l.station l.fn.ring l.ring G
    × (received_is l.ring ++ known_items l.ring ≡ end_items l.fn.end)
    × (length (known_items l.ring) + l.counter ≡ l.left)
    × IsEndOn l.end l.ring × (end_items l.end ≡ end_items l.fn.end)
    × (l.hub.down ≡ l.fn.hub.down)
    × (g.R.Register.refusals l.hub.register ≡ g.R.Register.refusals l.fn.hub.register)
