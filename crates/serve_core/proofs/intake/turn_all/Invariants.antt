use Rattle.std.proofs.Common.{◌≡◌, List, length, ◌++◌, ◌≤◌, vec_len}
use Rattle.serve_core.specs.declared.item.LogLine.{LogLine}
use Rattle.serve_core.specs.Logs.{Ascends, Serves}
use Rattle.serve_core.specs.Lanes.{Takes}
use Rattle.serve_core.proofs.intake.turn_all.Given as goal

abbrev pub invariant-loop-i : goal.invariant-loop-i
invariant-loop-i g l =
    (G : List LogLine) × (l.lines.items ≡ l.fn.lines.items ++ G)
    × Serves g.R.Register.holding l.fn.hub l.hub G × Takes l.fn.rings.items l.rings.items G
    × (l.taken ≡ length G) × Ascends 0 l.i G × (vec_len l.rings ≡ vec_len l.fn.rings)
    × (l.taken ≤ l.i) × (l.hub.down ≡ l.fn.hub.down)
    × (g.R.Register.refusals l.hub.register ≡ g.R.Register.refusals l.fn.hub.register)
