use Rattle.std.proofs.Common.{◌≡◌, Some, false, take}
use Rattle.std.specs.List.{list_any}
use Rattle.count_core.specs.Marks.{flagged}
use Rattle.count_core.proofs.sealed.has_flag.Given as goal

abbrev pub invariant-loop-i : goal.invariant-loop-i
invariant-loop-i l = list_any (λ x. flagged l.flags (Some x)) (take l.i l.things) ≡ false
