use Rattle.std.proofs.Common.{List, [], ◌∷◌, ◌++◌, Err, length, map, sym, ap, subst, ◌∙◌, arith}
use Rattle.std.proofs.lemmas.Result.{on_ok_weaker, IfErr-weaker}
use Rattle.serve_core.specs.declared.item.LogLine.{LogLine}
use Rattle.serve_core.specs.Logs.{Serves, ServesTo, dropped}
use Rattle.serve_core.specs.Sending.{IsMerge, AreFronts, AfterFault, EndsLanes, Sends, serve_fault}
use Rattle.serve_core.proofs.LogLemmas.{serves_then}
use Rattle.serve_core.proofs.Sendings.{back_to, back_of, fronts_stopped, stops_after, ends_after}
use Rattle.serve_core.proofs.Sendings.{merged, log_whole, hub_named}
use Rattle.serve_core.proofs.Takings.{zip_length, some_then_none, takes_is_some}
use Rattle.serve_core.proofs.serving.take_all.Goals as goal

pub finish_all-requires-clause-lanes : goal.finish_all-requires-clause-lanes
finish_all-requires-clause-lanes g c =
    back_to (λ h. h.promise.lane.value) (λ h. h.promise.feed.value) g.F.Feed.items
    c.args.prepared.children.items c.join_all.new.found.items c.args.prepared.intake
    c.turn_until.new.intake
    c.join_all.ensures c.requires.lanes c.in-Ok.ensures.lines.3.rings

pub finish_all-requires-clause-few : goal.finish_all-requires-clause-few
finish_all-requires-clause-few g c =
    omega (
      arith,
      c.requires.room.few,
      zip_length (λ h s. Sends h.promise.lane.value (g.F.Feed.items h.promise.feed.value) s) _ _
          c.join_all.ensures,
      c.args.prepared.children.ok.0,
      c.join_all.new.found.ok.0,
    )

pub finish_all-requires-clause-ends : goal.finish_all-requires-clause-ends
finish_all-requires-clause-ends g c = (
  c.requires.room.no_ends,
  omega (
    arith,
    c.requires.room.ends,
    zip_length (λ h s. Sends h.promise.lane.value (g.F.Feed.items h.promise.feed.value) s) _ _
        c.join_all.ensures,
    c.args.prepared.children.ok.0,
    c.join_all.new.found.ok.0,
  ),
)

pub settle_lanes-requires : goal.settle_lanes-requires
settle_lanes-requires g c =
    let t = some_then_none _ _ _ _ (takes_is_some _ _ _ c.in-Err.ensures.fault.5)
    c.drop_until.ensures in
    back_to (λ h. h.promise.lane.value) (λ h. h.promise.feed.value) g.F.Feed.items
    c.args.prepared.children.items c.join_all-in-Err.new.found.items c.args.prepared.intake
    c.drop_until.new.intake
    c.join_all-in-Err.ensures c.requires.lanes t.rings

pub returns-in-Ok-clause-merge : goal.returns-in-Ok-clause-merge
returns-in-Ok-clause-merge g c =
    let hs = c.args.prepared.children.items in
    let found = c.join_all.new.found.items in
    let t = c.in-Ok.ensures.lines in
    let lanes = map (λ h. h.promise.lane.value) hs in
    let feeds = map g.F.Feed.items (map (λ h. h.promise.feed.value) hs) in
    let to = back_to (λ h. h.promise.lane.value) (λ h. h.promise.feed.value) g.F.Feed.items hs found
    c.args.prepared.intake c.turn_until.new.intake c.join_all.ensures c.requires.lanes
    t.3.rings in
    let of = back_of (λ h. h.promise.lane.value) (λ h. h.promise.feed.value) g.F.Feed.items hs found
    c.args.prepared.intake c.join_all.ensures c.requires.lanes in
    on_ok_weaker c.finish_all.result
    (λ f. subst (λ (G : List LogLine). IsMerge feeds G)
    (sym (log_whole _ _ _ t.0 f.0 c.requires.log t.1 f.1))
    (merged lanes c.args.prepared.intake c.turn_until.new.intake found feeds t.0 f.0
    c.requires.lanes t.3 to of f.3 f.5 f.4))
    c.finish_all.ensures.lines

pub returns-in-Ok-clause-served : goal.returns-in-Ok-clause-served
returns-in-Ok-clause-served g c =
    let t = c.in-Ok.ensures.lines in
    on_ok_weaker c.finish_all.result
    (λ f. subst (λ (G : List LogLine). Serves g.R.Register.holding c.args.hub.now
    c.finish_all.new.hub G) (sym (log_whole _ _ _ t.0 f.0 c.requires.log t.1 f.1))
    (serves_then g.R.Register.holding _ _ _ t.0 f.0 t.2 f.2))
    c.finish_all.ensures.lines

pub returns-in-Ok-clause-left : goal.returns-in-Ok-clause-left
returns-in-Ok-clause-left g c =
    let hs = c.args.prepared.children.items in
    let found = c.join_all.new.found.items in
    let t = c.in-Ok.ensures.lines in
    let lanes = map (λ h. h.promise.lane.value) hs in
    let feeds = map g.F.Feed.items (map (λ h. h.promise.feed.value) hs) in
    let cs = c.turn_until.new.intake in
    let to = back_to (λ h. h.promise.lane.value) (λ h. h.promise.feed.value) g.F.Feed.items hs found
    c.args.prepared.intake cs c.join_all.ensures c.requires.lanes t.3.rings in
    let of = back_of (λ h. h.promise.lane.value) (λ h. h.promise.feed.value) g.F.Feed.items hs found
    c.args.prepared.intake c.join_all.ensures c.requires.lanes in
    IfErr-weaker c.finish_all.result
    (EndsLanes g.R.Register.holding c.turn_until.new.hub c.finish_all.new.hub cs found
    c.turn_until.new.log c.finish_all.new.log)
    (AfterFault g.R.Register.holding c.args.hub.now c.finish_all.new.hub feeds c.finish_all.new.log)
    (ends_after g.R.Register.holding c.args.hub.now c.turn_until.new.hub c.finish_all.new.hub lanes
    c.args.prepared.intake cs found feeds c.args.log.now c.turn_until.new.log
    c.finish_all.new.log t.0
    c.requires.lanes t.3 to of c.requires.log t.1 t.2 c.in-Ok.ensures.level)
    c.finish_all.ensures.left

pub returns-in-Err-clause-left : goal.returns-in-Err-clause-left
returns-in-Err-clause-left g c =
    let hs = c.args.prepared.children.items in
    let found = c.join_all-in-Err.new.found.items in
    let f = c.in-Err.ensures.fault in
    let G = f.0 ++ dropped f.1 f.2 ∷ [] in
    let t = some_then_none _ _ _ G (takes_is_some _ _ G f.5) c.drop_until.ensures in
    let lanes = map (λ h. h.promise.lane.value) hs in
    let feeds = map g.F.Feed.items (map (λ h. h.promise.feed.value) hs) in
    let to = back_to (λ h. h.promise.lane.value) (λ h. h.promise.feed.value) g.F.Feed.items hs found
    c.args.prepared.intake c.drop_until.new.intake c.join_all-in-Err.ensures
    c.requires.lanes t.rings in
    let of = back_of (λ h. h.promise.lane.value) (λ h. h.promise.feed.value) g.F.Feed.items hs found
    c.args.prepared.intake c.join_all-in-Err.ensures c.requires.lanes in
    let is = sym (f.3 ∙ ap (λ (ls : List LogLine). ls ++ f.0) c.requires.log) in
    let fault = serve_fault c.in-Err.fault in
    subst (AfterFault g.R.Register.holding c.args.hub.now c.turn_until.new.hub feeds
    c.turn_until.new.log) (sym c.from.ensures)
    (stops_after g.R.Register.holding c.args.hub.now c.turn_until.new.hub feeds c.turn_until.new.log
    c.in-Err.fault (λ e. c.in-Err.ensures.store (ap Err e))
    (record {
      station = f.1;
      item = f.2;
      served = subst (λ (L : List LogLine). ServesTo g.R.Register.holding c.args.hub.now
          c.turn_until.new.hub L f.1 f.2) is f.4;
      fronts = subst (λ (L : List LogLine). AreFronts feeds (L ++ dropped f.1 f.2 ∷ []) fault) is
          (fronts_stopped lanes c.args.prepared.intake c.drop_until.new.intake found feeds G fault
          c.requires.lanes t to of c.settle_lanes.ensures.front
          (hub_named (length feeds) c.in-Err.fault));
    }))
