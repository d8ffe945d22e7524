use Rattle.export_core.specs.Setups.{thing_row}
use Rattle.export_core.proofs.Pushing.{numbered_more}
use Rattle.export_core.proofs.things.thing_rows.Goals as goal

pub loop-thing-preserved : goal.loop-thing-preserved
loop-thing-preserved c =
    numbered_more (thing_row c.args.ledger.now) c.loop-thing.thing c.loop-thing.rows.items
    c.push.new.self.items c.in_ok-thing_row.field-0 c.in_ok-push.ensures.items
    c.in_ok-thing_row.ensures c.loop-thing.invariant
