use Rattle.std.proofs.Common.{arith}
use Rattle.sqlite.specs.Held.{state}
use Rattle.sqlite.specs.State.{HasCleanDisk}
use Rattle.register_sql.specs.Posting.{without_term, more_term}
use Rattle.register_sql.proofs.Ends.{makes_then}
use Rattle.register_sql.proofs.Steps.{step_then}
use Rattle.register_sql.proofs.put.put_term.Goals as goal

pub returns-clause-wrote : goal.returns-clause-wrote
returns-clause-wrote g c clean =
    let old = state g.S.Store c.args.tx.now.conn.now in
    let mid = state g.S.Store c.clear_term.new.tx.conn.now in
    let new = state g.S.Store c.add_term.new.tx.conn.now in
    let early : HasCleanDisk mid = omega (arith, c.add_term.ensures.step.survives.clean) in
    makes_then old mid new
    (without_term (record { loan = c.args.term.now.0; day = c.args.term.now.1 }))
    (more_term (record { loan = c.args.term.now.0; day = c.args.term.now.1 })) c.add_term.result
    (c.in_ok-clear_term.ensures.wrote early) (c.add_term.ensures.wrote clean)

pub returns-clause-step : goal.returns-clause-step
returns-clause-step g c = step_then _ _ _ _ _ c.clear_term.ensures.step c.add_term.ensures.step
