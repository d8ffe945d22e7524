use Rattle.std.proofs.Common.{◌≡◌, map, take}
use Rattle.posting_core.proofs.ledger.planning.lines_of.Given as goal

abbrev pub invariant-loop-i : goal.invariant-loop-i
invariant-loop-i l = l.lines ≡ map (λ o. record { loan = l.loan; object = o; stage = l.stage })
    (take l.i l.objects)
