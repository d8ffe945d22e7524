use Rattle.std.proofs.Common.{◌<◌, length, refl, ◌∙◌, arith}
use Rattle.rtrb.specs.Ring.{SameConsumer}
use Rattle.serve_core.specs.Lanes.{Begins, received_at}
use Rattle.serve_core.specs.Sending.{IsSentTo, IsStill, sent_at}
use Rattle.serve_core.proofs.Takings.{zip_length, zip_get, zip_set, zip_change, same_rings}
use Rattle.serve_core.proofs.Takings.{ring_trans, received_kept, by_step}
use Rattle.serve_core.proofs.Sendings.{all_still, still_trans, still_at, settled_at}
use Rattle.serve_core.proofs.ending.settle_lanes.Goals as goal

pub loop-i-init : goal.loop-i-init
loop-i-init c = record {
  pairs = c.requires;
  found = all_still c.args.found.now.items;
  rings = same_rings c.args.rings.now.items;
  taken = λ s. refl;
  front = λ s lt. absurd (omega arith);
}

pub index_mut-requires-in-loop-i : goal.index_mut-requires-in-loop-i
index_mut-requires-in-loop-i c =
    let inv = c.loop-i.invariant in
    omega (
      arith,
      c.loop-i-test.true,
      c.len-i-end.ensures,
      zip_length SameConsumer _ _ inv.rings,
      zip_length IsSentTo _ _ inv.pairs,
      c.args.rings.now.ok.0,
      c.loop-i.found.ok.0,
      c.loop-i.rings.ok.0,
    )

pub settle_lane-requires : goal.settle_lane-requires
settle_lane-requires c =
    let inv = c.loop-i.invariant in
    let lt : c.loop-i.i < length c.loop-i.found.items =
    omega (
      arith,
      c.loop-i-test.true,
      c.len-i-end.ensures,
      zip_length SameConsumer _ _ inv.rings,
      zip_length IsSentTo _ _ inv.pairs,
      c.args.rings.now.ok.0,
      c.loop-i.found.ok.0,
      c.loop-i.rings.ok.0,
    ) in
    zip_get IsSentTo c.loop-i.found.items c.loop-i.rings.items c.loop-i.i
    c.index_mut-in-loop-i.result.now c.index_mut.result.now inv.pairs lt
    c.index_mut-in-loop-i.ensures.value c.index_mut.ensures.value

pub loop-i-preserved : goal.loop-i-preserved
loop-i-preserved c =
    let inv = c.loop-i.invariant in
    let s = c.settle_lane.ensures in
    let lf : c.loop-i.i < length c.loop-i.found.items =
    omega (
      arith,
      c.loop-i-test.true,
      c.len-i-end.ensures,
      zip_length SameConsumer _ _ inv.rings,
      zip_length IsSentTo _ _ inv.pairs,
      c.args.rings.now.ok.0,
      c.loop-i.found.ok.0,
      c.loop-i.rings.ok.0,
    ) in
    let lr : c.loop-i.i < length c.loop-i.rings.items =
    omega (
      arith,
      c.loop-i-test.true,
      c.len-i-end.ensures,
      zip_length SameConsumer _ _ inv.rings,
      c.args.rings.now.ok.0,
      c.loop-i.rings.ok.0,
    ) in
    let x = c.index_mut-in-loop-i.result.now in
    let r = c.index_mut.result.now in
    record {
      pairs = zip_set IsSentTo c.loop-i.found.items c.loop-i.rings.items c.loop-i.i
          c.settle_lane.new.sent c.settle_lane.new.ring inv.pairs s.pair;
      found = zip_change IsStill c.args.found.now.items c.loop-i.found.items c.loop-i.i x
          c.settle_lane.new.sent inv.found c.index_mut-in-loop-i.ensures.value
          (λ f p. still_trans f x c.settle_lane.new.sent p s.sent);
      rings = zip_change SameConsumer c.args.rings.now.items c.loop-i.rings.items c.loop-i.i r
          c.settle_lane.new.ring inv.rings c.index_mut.ensures.value
          (λ f p. ring_trans f r c.settle_lane.new.ring p s.ring.0);
      taken = λ k. received_kept c.loop-i.rings.items c.loop-i.i k r c.settle_lane.new.ring lr
          c.index_mut.ensures.value s.ring.1 ∙ inv.taken k;
      front = by_step (λ k. Begins (received_at c.args.rings.now.items k)
          (sent_at c.args.found.now.items k)) c.loop-i.i inv.front
          (settled_at c.args.rings.now.items c.loop-i.rings.items c.args.found.now.items
          c.loop-i.found.items c.loop-i.i r x (inv.taken c.loop-i.i)
          (still_at _ _ c.loop-i.i inv.found) lr lf c.index_mut.ensures.value
          c.index_mut-in-loop-i.ensures.value s.front);
    }
