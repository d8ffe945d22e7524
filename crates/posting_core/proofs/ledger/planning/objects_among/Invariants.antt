use Rattle.std.proofs.Common.{◌≡◌, not, filter, take}
use Rattle.nest_core.specs.Museum.{is_container}
use Rattle.posting_core.proofs.ledger.planning.objects_among.Given as goal

abbrev pub invariant-loop-i : goal.invariant-loop-i
invariant-loop-i l = l.objects.items ≡ filter (λ o. not (is_container l.setup o))
    (take l.i l.things)
