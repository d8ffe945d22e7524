use Rattle.std.proofs.Common.{arith}
use Rattle.sqlite.specs.Held.{state}
use Rattle.sqlite.specs.State.{HasCleanDisk}
use Rattle.register_sql.proofs.Raised.{within_raised, lifts}
use Rattle.register_sql.proofs.Steps.{step_then}
use Rattle.register_sql.proofs.upgrade.lift.Goals as goal

pub returns-clause-wrote : goal.returns-clause-wrote
returns-clause-wrote g c clean =
    let old = state g.S.Store c.args.tx.now.conn.now in
    let mid = state g.S.Store c.raise.new.tx.conn.now in
    let new = state g.S.Store c.put_terms.new.tx.conn.now in
    let early : HasCleanDisk mid = omega (arith, c.put_terms.ensures.step.survives.clean) in
    lifts c.args.entries.now old mid new c.put_terms.result (c.in_ok-raise.ensures.wrote early)
    (c.put_terms.ensures.wrote clean)

pub put_terms-requires : goal.put_terms-requires
put_terms-requires g c clean =
    let old = state g.S.Store c.args.tx.now.conn.now in
    let mid = state g.S.Store c.raise.new.tx.conn.now in
    let early : HasCleanDisk old = omega (arith, clean, c.raise.ensures.step.survives.clean) in
    within_raised old mid (c.raise.ensures.step.kept clean) (c.requires.lines early)
    (c.in_ok-raise.ensures.wrote clean)

pub returns-clause-step : goal.returns-clause-step
returns-clause-step g c = step_then _ _ _ _ _ c.raise.ensures.step c.put_terms.ensures.step
