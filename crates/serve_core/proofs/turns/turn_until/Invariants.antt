use Rattle.std.proofs.Common.{◌≡◌, List, ◌++◌}
use Rattle.serve_core.specs.declared.item.LogLine.{LogLine}
use Rattle.serve_core.specs.Logs.{Serves}
use Rattle.serve_core.specs.Lanes.{Takes}
use Rattle.serve_core.proofs.turns.turn_until.Given as goal

abbrev pub invariant-loop : goal.invariant-loop
invariant-loop g l =
    (goal.iterator-loop g).can_next l.iterator' × (goal.iterator-loop g).is_finite l.iterator'
    × ((G : List LogLine) × (l.log ≡ l.fn.log ++ G) × Serves g.R.Register.holding l.fn.hub l.hub G
    × Takes l.fn.intake l.intake G)
    × (l.hub.down ≡ l.fn.hub.down)
    × (g.R.Register.refusals l.hub.register ≡ g.R.Register.refusals l.fn.hub.register)
