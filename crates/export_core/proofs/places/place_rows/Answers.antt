use Rattle.export_core.specs.Setups.{place_row}
use Rattle.export_core.proofs.Pushing.{numbered_more}
use Rattle.export_core.proofs.places.place_rows.Goals as goal

pub loop-place-preserved : goal.loop-place-preserved
loop-place-preserved c =
    numbered_more (place_row c.args.setup.now) c.loop-place.place c.loop-place.rows.items
    c.push.new.self.items c.in_ok-place_row.field-0 c.in_ok-push.ensures.items
    c.in_ok-place_row.ensures c.loop-place.invariant
