use Rattle.std.proofs.Common.{arith}
use Rattle.sqlite.specs.Held.{state}
use Rattle.sqlite.specs.State.{HasCleanDisk}
use Rattle.register_store.specs.StoredRows.{line_row}
use Rattle.register_sql.specs.Posting.{without_line, more_line}
use Rattle.register_sql.proofs.Ends.{makes_then}
use Rattle.register_sql.proofs.Steps.{step_then}
use Rattle.register_sql.proofs.put.put_line.Goals as goal

pub returns-clause-wrote : goal.returns-clause-wrote
returns-clause-wrote g c clean =
    let old = state g.S.Store c.args.tx.now.conn.now in
    let mid = state g.S.Store c.clear_line.new.tx.conn.now in
    let new = state g.S.Store c.add_line.new.tx.conn.now in
    let early : HasCleanDisk mid = omega (arith, c.add_line.ensures.step.survives.clean) in
    makes_then old mid new (without_line (line_row c.args.line.now))
    (more_line (line_row c.args.line.now)) c.add_line.result
    (c.in_ok-clear_line.ensures.wrote early) (c.add_line.ensures.wrote clean)

pub returns-clause-step : goal.returns-clause-step
returns-clause-step g c = step_then _ _ _ _ _ c.clear_line.ensures.step c.add_line.ensures.step
