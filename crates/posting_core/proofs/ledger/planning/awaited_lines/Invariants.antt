use Rattle.std.proofs.Common.{◌≡◌, map, take}
use Rattle.posting_core.specs.declared.stage.LineStage.TheVariants.{Awaiting}
use Rattle.posting_core.specs.Messages.{thing_no}
use Rattle.posting_core.proofs.ledger.planning.awaited_lines.Given as goal

abbrev pub invariant-loop-i : goal.invariant-loop-i
invariant-loop-i l = l.lines ≡ map (λ o. record { loan = l.loan; object = o; stage = Awaiting })
    (map (thing_no l.setup) (take l.i l.objects))
