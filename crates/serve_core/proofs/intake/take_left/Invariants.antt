use Rattle.std.proofs.Common.{◌≡◌, ℕ, List, ◌++◌, ◌<◌, vec_len}
use Rattle.std.specs.List.{AllZip}
use Rattle.serve_core.specs.declared.item.LogLine.{LogLine}
use Rattle.serve_core.specs.Logs.{Serves}
use Rattle.serve_core.specs.Lanes.{Takes, IsEndOn, SameEnds, received_at, ended_at}
use Rattle.serve_core.proofs.intake.take_left.Given as goal

abbrev pub invariant-loop-i : goal.invariant-loop-i
invariant-loop-i g l =
    (G : List LogLine) × (l.lines.items ≡ l.fn.lines.items ++ G)
    × Serves g.R.Register.holding l.fn.hub l.hub G × Takes l.fn.rings.items l.rings.items G
    × ((s : ℕ) → s < l.i → received_at l.rings.items s ≡ ended_at l.fn.ends.items s)
    × AllZip IsEndOn l.ends.items l.rings.items × SameEnds l.fn.ends.items l.ends.items
    × (vec_len l.rings ≡ vec_len l.fn.rings)
    × (l.hub.down ≡ l.fn.hub.down)
    × (g.R.Register.refusals l.hub.register ≡ g.R.Register.refusals l.fn.hub.register)
