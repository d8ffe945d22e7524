use Rattle.std.proofs.Common.{◌<◌, [], length, refl, arith}
use Rattle.serve_core.proofs.Takings.{takes_none, takes_is_some, dropped_at}
use Rattle.serve_core.proofs.intake.drop_all.Goals as goal

pub loop-i-init : goal.loop-i-init
loop-i-init c = (takes_is_some _ _ [] (takes_none _), refl, omega arith)

pub loop-i-preserved : goal.loop-i-preserved
loop-i-preserved c =
    let inv = c.loop-i.invariant in
    let d = c.drop_one-taken.ensures in
    let lt : c.loop-i.i < length c.loop-i.rings.items =
    omega (arith, c.loop-i-test.true, c.len-i-end.ensures, inv.1, c.loop-i.rings.ok.0) in (
      dropped_at c.args.rings.now.items c.loop-i.rings.items c.loop-i.i c.index_mut.result.now
          c.drop_one-taken.new.ring inv.0 lt c.index_mut.ensures.value d.ring d.some,
      inv.1,
      omega (arith, inv.2, d.few),
    )
