use Rattle.std.proofs.Common.{◌≡◌, map, take}
use Rattle.posting_core.proofs.kept_loan.objects_of.Given as goal

abbrev pub invariant-loop-i : goal.invariant-loop-i
invariant-loop-i l = l.objects.keys ≡ map (λ n. n.object) (take l.i l.lines)
