use Rattle.std.proofs.Common.{◌<◌, length, ◌∙◌, arith}
use Rattle.serve_core.specs.Lanes.{IsEndOn, Begins, received_at, ended_at}
use Rattle.serve_core.proofs.Takings.{zip_length, zip_get, zip_set, ends_set, received_kept}
use Rattle.serve_core.proofs.Takings.{by_step, front_at}
use Rattle.serve_core.proofs.intake.settle_all.Goals as goal

pub index_mut-requires-in-loop-i : goal.index_mut-requires-in-loop-i
index_mut-requires-in-loop-i c =
    let inv = c.loop-i.invariant in
    omega (
      arith,
      c.loop-i-test.true,
      c.len-i-end.ensures,
      inv.2,
      zip_length IsEndOn _ _ inv.0,
      c.loop-i.ends.ok.0,
      c.loop-i.rings.ok.0,
    )

pub settle-requires : goal.settle-requires
settle-requires c =
    let inv = c.loop-i.invariant in
    let lt : c.loop-i.i < length c.loop-i.ends.items =
    omega (
      arith,
      c.loop-i-test.true,
      c.len-i-end.ensures,
      inv.2,
      zip_length IsEndOn _ _ inv.0,
      c.loop-i.ends.ok.0,
      c.loop-i.rings.ok.0,
    ) in
    zip_get IsEndOn c.loop-i.ends.items c.loop-i.rings.items c.loop-i.i
    c.index_mut-in-loop-i.result.now c.index_mut.result.now inv.0 lt
    c.index_mut-in-loop-i.ensures.value c.index_mut.ensures.value

pub loop-i-preserved : goal.loop-i-preserved
loop-i-preserved c =
    let inv = c.loop-i.invariant in
    let s = c.settle.ensures in
    let le : c.loop-i.i < length c.loop-i.ends.items =
    omega (
      arith,
      c.loop-i-test.true,
      c.len-i-end.ensures,
      inv.2,
      zip_length IsEndOn _ _ inv.0,
      c.loop-i.ends.ok.0,
      c.loop-i.rings.ok.0,
    ) in
    let lc : c.loop-i.i < length c.loop-i.rings.items =
    omega (arith, c.loop-i-test.true, c.len-i-end.ensures, inv.2, c.loop-i.rings.ok.0) in
    let e = c.index_mut-in-loop-i.result.now in
    let r = c.index_mut.result.now in (
      zip_set IsEndOn c.loop-i.ends.items c.loop-i.rings.items c.loop-i.i c.settle.new.end
          c.settle.new.ring inv.0 s.end.0,
      ends_set c.args.ends.now.items c.loop-i.ends.items c.loop-i.i e c.settle.new.end inv.1 le
          c.index_mut-in-loop-i.ensures.value s.end.1,
      inv.2,
      λ k. received_kept c.loop-i.rings.items c.loop-i.i k r c.settle.new.ring lc
          c.index_mut.ensures.value s.ring.1 ∙ inv.3 k,
      by_step (λ k. Begins (received_at c.args.rings.now.items k)
          (ended_at c.args.ends.now.items k)) c.loop-i.i inv.4
          (front_at c.args.rings.now.items c.loop-i.rings.items c.args.ends.now.items
          c.loop-i.ends.items c.loop-i.i r e (inv.3 c.loop-i.i) (inv.1.1 c.loop-i.i) lc le
          c.index_mut.ensures.value c.index_mut-in-loop-i.ensures.value s.front),
    )
