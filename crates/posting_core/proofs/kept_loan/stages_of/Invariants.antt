use Rattle.std.proofs.Common.{◌≡◌, map, take}
use Rattle.posting_core.proofs.kept_loan.stages_of.Given as goal

abbrev pub invariant-loop-i : goal.invariant-loop-i
invariant-loop-i l = l.stages.items ≡ map (λ n. n.stage) (take l.i l.lines)
