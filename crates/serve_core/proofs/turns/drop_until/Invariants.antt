use Rattle.std.proofs.Common.{[]}
use Rattle.serve_core.specs.Lanes.{TakesSome}
use Rattle.serve_core.proofs.turns.drop_until.Given as goal

abbrev pub invariant-loop : goal.invariant-loop
invariant-loop g l =
    (goal.iterator-loop g).can_next l.iterator' × (goal.iterator-loop g).is_finite l.iterator'
    × TakesSome l.fn.intake l.intake []
