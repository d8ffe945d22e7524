use Rattle.std.proofs.Common.{◌≡◌, ℕ, ◌<◌, vec_len}
use Rattle.std.specs.List.{AllZip}
use Rattle.serve_core.specs.Lanes.{IsEndOn, SameEnds, received_at, ended_at, Begins}
use Rattle.serve_core.proofs.intake.settle_all.Given as goal

abbrev pub invariant-loop-i : goal.invariant-loop-i
invariant-loop-i l =
    AllZip IsEndOn l.ends.items l.rings.items × SameEnds l.fn.ends.items l.ends.items
    × (vec_len l.rings ≡ vec_len l.fn.rings)
    × ((s : ℕ) → received_at l.rings.items s ≡ received_at l.fn.rings.items s)
    × ((s : ℕ) → s < l.i → Begins (received_at l.fn.rings.items s) (ended_at l.fn.ends.items s))
