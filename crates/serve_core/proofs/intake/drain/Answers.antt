use Rattle.std.proofs.Common.{[], ◌∷◌, ◌++◌, length, refl, sym, append-nil, ◌∙◌, ap, arith}
use Rattle.serve_core.specs.Logs.{dropped}
use Rattle.serve_core.specs.Lanes.{received_is}
use Rattle.serve_core.proofs.LogLemmas.{err_any, serves_none, serves_then, serves_to}
use Rattle.serve_core.proofs.Takings.{lines_then, takes_push, moved, still_end}
use Rattle.serve_core.proofs.intake.drain.Goals as goal

pub loop-preserved : goal.loop-preserved
loop-preserved g c =
    let inv = c.loop.invariant in
    let p = c.pop_known-item.ensures in
    let line = c.in_ok-log_item.ensures.line in (
      inv.0 ++ line.0 ∷ [],
      lines_then _ _ _ inv.0 (line.0 ∷ []) inv.1 line.1,
      serves_then g.R.Register.holding _ _ _ inv.0 (line.0 ∷ []) inv.2 line.3,
      takes_push c.args.station c.args.ring.now c.loop.ring c.pop_known-item.new.self inv.0 line.0
          c.pop_known-item.result inv.3 p.ring p.received.0 line.2,
      moved _ _ _ _ _ c.pop_known-item.result inv.4 p.received.0 p.received.1,
      omega (arith, inv.5, ap length p.received.1),
      still_end (record { finished = c.slots_after-left.new.finished }) c.loop.ring
          c.pop_known-item.new.self inv.6 p.ring,
      inv.7,
      c.in_ok-log_item.ensures.level ∙ inv.8,
      c.in_ok-log_item.ensures.count ∙ inv.9,
    )

pub loop-init : goal.loop-init
loop-init g c =
    let s = c.slots_after-left.ensures in (
      [],
      sym (append-nil _),
      serves_none g.R.Register.holding c.args.hub.now,
      record {
        ring = s.looked.0;
        of = tt;
        taken = s.looked.1 ∙ sym (append-nil (received_is c.args.ring.now));
      },
      s.fifo,
      omega (arith, s.value),
      s.finished.0,
      s.finished.1,
      refl,
      refl,
    )

pub returns-in_err-log_item-clause-fault : goal.returns-in_err-log_item-clause-fault
returns-in_err-log_item-clause-fault g c =
    let inv = c.loop.invariant in
    let p = c.pop_known-item.ensures in
    let fault = c.in_err-log_item.ensures.fault in
    let x = c.pop_known-item.result in
    err_any c.from_residual.result (
      inv.0,
      x,
      fault.0 ∙ inv.1,
      serves_to g.R.Register.holding _ _ _ inv.0 c.args.station x inv.2 fault.1,
      takes_push c.args.station c.args.ring.now c.loop.ring c.pop_known-item.new.self inv.0
          (dropped c.args.station x) x inv.3 p.ring p.received.0 (refl, refl),
    )

pub returns-in_err-log_item-clause-end : goal.returns-in_err-log_item-clause-end
returns-in_err-log_item-clause-end g c =
    let inv = c.loop.invariant in (
      still_end (record { finished = c.slots_after-left.new.finished }) c.loop.ring
          c.pop_known-item.new.self inv.6 c.pop_known-item.ensures.ring,
      inv.7,
    )

pub returns-clause-level : goal.returns-clause-level
returns-clause-level g c = c.loop.invariant.8

pub returns-clause-end : goal.returns-clause-end
returns-clause-end g c = (c.loop.invariant.6, c.loop.invariant.7)
