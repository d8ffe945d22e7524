use Rattle.std.proofs.Common.{◌≡◌, Err, rules, sym, subst}
use Rattle.sqlite.specs.Held.{state}
use Rattle.sqlite.specs.State.{KeepsCommit}
use Rattle.sqlite.specs.Values.{bound}
use Rattle.sqlite.specs.declared.error.Error.TheVariants.{SqliteFailure}
use Rattle.sqlite.specs.declared.error.ErrorCode.TheVariants.{TransactionState}
use Rattle.register_sql.specs.Failing.{IsStep}
use Rattle.register_sql.proofs.Ends.{kept_still}
use Rattle.register_sql.proofs.Steps.{step_failed}
use Rattle.register_sql.proofs.put.run.Goals as goal

pub returns-in_err-execute-clause-step : goal.returns-in_err-execute-clause-step
returns-in_err-execute-clause-step g c =
    let old = c.args.tx.now.conn.now in
    let new = c.execute.new.self.conn.now in
    let e = c.in_err-execute.field-0.0 in
    let is : c.from_residual.result ≡ Err e = search rules in
    subst (IsStep (state g.S.Store old) (state g.S.Store new)) (sym is)
    (step_failed (state g.S.Store old) (state g.S.Store new) c.args.text.now
    (bound c.args.given.now) e c.execute.ensures.survives
    (λ none. let ended = c.in_err-execute.ensures.ended none in (
      let same : e ≡ SqliteFailure TransactionState = cc in same,
      subst (λ h. KeepsCommit (state g.S.Store old) (state g.S.Store h)) (sym ended.1)
          (kept_still (state g.S.Store old)),
    ))
    c.in_err-execute.ensures.runs)
