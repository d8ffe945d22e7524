use Rattle.std.proofs.Common.{arith}
use Rattle.serve_core.specs.Lanes.{IsFresh}
use Rattle.serve_core.proofs.Takings.{zip_push}
use Rattle.serve_core.proofs.intake.lanes.Goals as goal

pub loop-preserved : goal.loop-preserved
loop-preserved c = record {
  lanes_count = omega (arith, c.in_ok-push.ensures.len, c.loop.invariant.lanes_count);
  rings_count = omega (arith, c.in_ok-push-2.ensures.len, c.loop.invariant.rings_count);
  fresh = rw (c.in_ok-push.ensures.items, c.in_ok-push-2.ensures.items)
      (zip_push IsFresh _ _ _ _ c.loop.invariant.fresh (
        c.in_ok-producer.ensures.pair,
        c.in_ok-producer.ensures.producer.0,
        c.in_ok-producer.ensures.consumer.0,
      ));
}
