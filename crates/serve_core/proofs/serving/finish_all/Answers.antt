use Rattle.std.proofs.Common.{◌≡◌, ◌<◌, List, [], ◌∷◌, ◌++◌, Err, length, All, true, inr, refl, ap}
use Rattle.std.proofs.Common.{sym, append-nil, subst, arith}
use Rattle.std.proofs.lemmas.List.Elements.{All-nil}
use Rattle.std.proofs.lemmas.Result.{on_ok_weaker, IfErr-weaker}
use Rattle.rtrb.specs.Ring.{SameConsumer}
use Rattle.serve_core.specs.declared.item.LogLine.{LogLine}
use Rattle.serve_core.specs.declared.serve_fault.ServeFault.{ServeFault}
use Rattle.serve_core.specs.declared.serve_fault.ServeFault.TheVariants as faults
use Rattle.serve_core.specs.declared.sending.Sent.{Sent}
use Rattle.serve_core.specs.Logs.{AreOfStations, dropped}
use Rattle.serve_core.specs.Sending.{IsSentTo, IsStill, LeavesLanes, EndsLanes}
use Rattle.serve_core.proofs.LogLemmas.{serves_none}
use Rattle.serve_core.proofs.Sendings.{ends_on, none_left, missing_lanes, stops_lanes_after}
use Rattle.serve_core.proofs.Sendings.{left_front, left_whole}
use Rattle.serve_core.proofs.Takings.{zip_length, front_of_left}
use Rattle.serve_core.proofs.serving.finish_all.Goals as goal

pub end_all-requires-clause-few : goal.end_all-requires-clause-few
end_all-requires-clause-few g c =
    omega (
      arith,
      c.requires.few,
      zip_length IsStill _ _ c.settle_lanes.ensures.found,
      c.args.room.found.ok.0,
      c.settle_lanes.new.found.ok.0,
    )

pub end_all-requires-clause-room : goal.end_all-requires-clause-room
end_all-requires-clause-room g c = (
  c.requires.ends.0,
  omega (
    arith,
    c.requires.ends.1,
    zip_length IsStill _ _ c.settle_lanes.ensures.found,
    c.args.room.found.ok.0,
    c.settle_lanes.new.found.ok.0,
  ),
)

pub finish-requires : goal.finish-requires
finish-requires g c = ends_on c.settle_lanes.new.found.items c.end_all.new.ends.items
    c.settle_lanes.new.self c.in-None.ensures.ends c.settle_lanes.ensures.pairs

pub returns-in-Some-clause-left : goal.returns-in-Some-clause-left
returns-in-Some-clause-left g c =
    let lt = c.in-Some.ensures.missing.0 in
    missing_lanes g.R.Register.holding c.args.hub.now c.args.hub.now c.args.intake
    c.args.room.found.items c.args.log.now c.args.log.now
    c.are_whole-whole.result c.missing_end.result c.in-Some.station c.missing_end.ensures.missing
    c.missing_end.ensures.memory
    (omega (
      arith,
      lt,
      zip_length IsSentTo _ _ c.settle_lanes.ensures.pairs,
      zip_length SameConsumer _ _ c.settle_lanes.ensures.rings,
      c.settle_lanes.new.found.ok.0,
    ))
    (record {
      lines = [];
      log = sym (append-nil _);
      served = serves_none g.R.Register.holding c.args.hub.now;
      level = refl;
      stations = All-nil (λ (l : LogLine). l.station < length c.args.intake);
      front = none_left c.args.intake c.args.room.found.items c.settle_lanes.ensures.front;
    })

pub returns-in-Ok-clause-lines : goal.returns-in-Ok-clause-lines
returns-in-Ok-clause-lines g c =
    let t = c.in-Ok.ensures.lines in
    let s = c.settle_lanes.ensures in
    let len : length c.settle_lanes.new.self ≡ length c.args.intake =
    sym (zip_length SameConsumer _ _ s.rings) in
    on_ok_weaker c.all_or_no_memory.result
    (λ w. (
      t.0,
      t.1,
      t.2,
      subst (λ n. AreOfStations n t.0) len t.3,
      subst (λ (xs : List Sent). All (λ (x : Sent). x.whole ≡ true) xs) c.deref.ensures.value
          (c.are_whole-whole.ensures w),
      left_whole c.args.intake c.args.room.found.items c.settle_lanes.new.found.items
          c.settle_lanes.new.self c.end_all.new.ends.items t.0 s.found c.in-None.ensures.ends len
          s.taken t.4,
    ))
    c.all_or_no_memory.ensures.whole

pub returns-in-Ok-clause-left : goal.returns-in-Ok-clause-left
returns-in-Ok-clause-left g c =
    let t = c.in-Ok.ensures.lines in
    let s = c.settle_lanes.ensures in
    let len : length c.settle_lanes.new.self ≡ length c.args.intake =
    sym (zip_length SameConsumer _ _ s.rings) in
    let found = c.args.room.found.items in
    let ends = c.end_all.new.ends.items in
    let Left : ServeFault → Type 0 = EndsLanes g.R.Register.holding c.args.hub.now c.finish.new.hub
    c.args.intake found c.args.log.now c.finish.new.log in
    let leaves : LeavesLanes g.R.Register.holding c.args.hub.now c.finish.new.hub c.args.intake
    found c.args.log.now c.finish.new.log = record {
      lines = t.0;
      log = t.1;
      served = t.2;
      level = c.in-Ok.ensures.level;
      stations = subst (λ n. AreOfStations n t.0) len t.3;
      front = left_front c.args.intake found c.settle_lanes.new.found.items c.settle_lanes.new.self
          ends t.0 s.found c.in-None.ensures.ends len s.taken
          (front_of_left c.settle_lanes.new.self ends t.0 t.4);
    } in
    IfErr-weaker c.all_or_no_memory.result (λ fault. fault ≡ faults.NoMemory) Left
    (λ fault e. subst Left (sym e) (inr leaves)) c.all_or_no_memory.ensures.fault

pub returns-in-Err-clause-left : goal.returns-in-Err-clause-left
returns-in-Err-clause-left g c =
    let t = c.in-Err.ensures.fault in
    let s = c.settle_lanes.ensures in
    let len : length c.settle_lanes.new.self ≡ length c.args.intake =
    sym (zip_length SameConsumer _ _ s.rings) in
    let found = c.args.room.found.items in
    let ends = c.end_all.new.ends.items in
    let G = t.0 ++ dropped t.1 t.2 ∷ [] in
    subst (EndsLanes g.R.Register.holding c.args.hub.now c.finish.new.hub c.args.intake found
    c.args.log.now c.finish.new.log) (sym c.from.ensures)
    (stops_lanes_after g.R.Register.holding c.args.hub.now c.finish.new.hub c.args.intake found
    c.args.log.now c.finish.new.log c.in-Err.fault (λ e. c.in-Err.ensures.store (ap Err e))
    (record {
      lines = t.0;
      station = t.1;
      item = t.2;
      log = t.3;
      served = t.4;
      stations = subst (λ n. AreOfStations n G) len t.5;
      front = left_front c.args.intake found c.settle_lanes.new.found.items c.settle_lanes.new.self
          ends G s.found c.in-None.ensures.ends len s.taken t.6;
    }))
