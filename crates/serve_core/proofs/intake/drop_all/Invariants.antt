use Rattle.std.proofs.Common.{◌≡◌, ◌≤◌, [], vec_len}
use Rattle.serve_core.specs.Lanes.{TakesSome}
use Rattle.serve_core.proofs.intake.drop_all.Given as goal

abbrev pub invariant-loop-i : goal.invariant-loop-i
invariant-loop-i l = TakesSome l.fn.rings.items l.rings.items []
    × (vec_len l.rings ≡ vec_len l.fn.rings) × (l.taken ≤ l.i)
