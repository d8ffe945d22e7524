use Rattle.std.proofs.Common.{[], ◌∷◌, ◌++◌, refl, ◌∙◌, sym, append-nil}
use Rattle.serve_core.specs.Logs.{dropped}
use Rattle.serve_core.proofs.LogLemmas.{err_any, serves_none, serves_then, serves_to_then}
use Rattle.serve_core.proofs.Takings.{lines_then, takes_none, takes_after, takes_joined}
use Rattle.serve_core.proofs.turns.turn_until.Goals as goal

pub loop-init : goal.loop-init
loop-init g c = (
  tt,
  tt,
  (
    [],
    sym (append-nil _),
    serves_none g.R.Register.holding c.args.hub.now,
    takes_none _,
  ),
  refl,
  refl,
)

pub loop-preserved : goal.loop-preserved
loop-preserved g c =
    let inv = c.loop.invariant in
    let t = c.in_ok-taken.ensures.lines in (
      tt,
      tt,
      (
        inv.2.0 ++ t.0,
        lines_then _ _ _ inv.2.0 t.0 inv.2.1 t.1,
        serves_then g.R.Register.holding _ _ _ inv.2.0 t.0 inv.2.2 t.2,
        takes_after _ _ _ inv.2.0 t.0 inv.2.3 t.3,
      ),
      c.in_ok-taken.ensures.level ∙ inv.3,
      c.in_ok-taken.ensures.count ∙ inv.4,
    )

pub returns-in_err-taken-clause-fault : goal.returns-in_err-taken-clause-fault
returns-in_err-taken-clause-fault g c =
    let inv = c.loop.invariant in
    let t = c.in_err-taken.ensures.fault in
    err_any c.from_residual.result (
      inv.2.0 ++ t.0,
      t.1,
      t.2,
      lines_then _ _ _ inv.2.0 t.0 inv.2.1 t.3,
      serves_to_then g.R.Register.holding _ _ _ inv.2.0 t.0 t.1 t.2 inv.2.2 t.4,
      takes_joined _ _ inv.2.0 t.0 (dropped t.1 t.2 ∷ [])
          (takes_after _ _ _ inv.2.0 (t.0 ++ dropped t.1 t.2 ∷ []) inv.2.3 t.5),
    )
