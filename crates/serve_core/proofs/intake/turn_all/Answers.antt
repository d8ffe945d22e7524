use Rattle.std.proofs.Common.{◌<◌, [], ◌∷◌, ◌++◌, length, refl, ◌∙◌, sym, arith, length-append}
use Rattle.std.proofs.Common.{append-nil}
use Rattle.serve_core.specs.Logs.{dropped}
use Rattle.serve_core.proofs.LogLemmas.{err_any, serves_none, serves_then, serves_to}
use Rattle.serve_core.proofs.Takings.{takes_none, takes_then, lines_then, ascends_more}
use Rattle.serve_core.proofs.intake.turn_all.Goals as goal

pub loop-i-init : goal.loop-i-init
loop-i-init g c = (
  [],
  sym (append-nil _),
  serves_none g.R.Register.holding c.args.hub.now,
  takes_none _,
  refl,
  tt,
  refl,
  omega arith,
  refl,
  refl,
)

pub loop-i-preserved : goal.loop-i-preserved
loop-i-preserved g c =
    let inv = c.loop-i.invariant in
    let t = c.in_ok-taken.ensures.lines in
    let within : c.loop-i.i < length c.loop-i.rings.items =
    omega (arith, c.loop-i-test.true, c.len-i-end.ensures, inv.6, c.loop-i.rings.ok.0) in (
      inv.0 ++ t.0,
      lines_then _ _ _ inv.0 t.0 inv.1 t.1,
      serves_then g.R.Register.holding _ _ _ inv.0 t.0 inv.2 t.2,
      takes_then _ _ inv.0 t.0 c.loop-i.i c.index_mut.result.now c.take_one.new.ring inv.3
          within c.index_mut.ensures.value t.3,
      omega (arith, inv.4, t.4, length-append inv.0 t.0),
      ascends_more 0 c.loop-i.i inv.0 t.0 inv.5 t.3.of (omega (arith, t.4, t.5)) (omega arith),
      inv.6,
      omega (arith, inv.7, t.5),
      c.in_ok-taken.ensures.level ∙ inv.8,
      c.in_ok-taken.ensures.count ∙ inv.9,
    )

pub returns-in_err-taken-clause-fault : goal.returns-in_err-taken-clause-fault
returns-in_err-taken-clause-fault g c =
    let inv = c.loop-i.invariant in
    let t = c.in_err-taken.ensures.fault in
    let within : c.loop-i.i < length c.loop-i.rings.items =
    omega (arith, c.loop-i-test.true, c.len-i-end.ensures, inv.6, c.loop-i.rings.ok.0) in
    err_any c.from_residual.result (
      inv.0,
      c.loop-i.i,
      t.0,
      t.1 ∙ inv.1,
      serves_to g.R.Register.holding _ _ _ inv.0 c.loop-i.i t.0 inv.2 t.2,
      takes_then _ _ inv.0 (dropped c.loop-i.i t.0 ∷ []) c.loop-i.i c.index_mut.result.now
          c.take_one.new.ring inv.3 within c.index_mut.ensures.value t.3,
      inv.5,
    )
