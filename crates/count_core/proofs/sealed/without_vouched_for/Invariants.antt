use Rattle.std.proofs.Common.{◌≡◌, filter, not, take}
use Rattle.count_core.specs.Sealed.{is_in_flagged}
use Rattle.count_core.proofs.sealed.without_vouched_for.Given as goal

abbrev pub invariant-loop-i : goal.invariant-loop-i
invariant-loop-i l =
    l.left.items ≡ filter (λ m. not (is_in_flagged l.ledger l.seen m.object)) (take l.i l.missing)
