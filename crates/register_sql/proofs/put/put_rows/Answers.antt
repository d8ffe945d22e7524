use Rattle.std.proofs.Common.{arith}
use Rattle.sqlite.specs.Held.{state}
use Rattle.sqlite.specs.State.{HasCleanDisk}
use Rattle.register_store.specs.Plain.{posting_row}
use Rattle.register_store.specs.StoredRows.{spot_row, line_row, term_of, with_posted}
use Rattle.register_sql.specs.Posting.{with_each, with_posting, with_spot, with_line}
use Rattle.register_sql.specs.Posting.{with_some_term}
use Rattle.register_sql.proofs.Ends.{makes_then, makes_as}
use Rattle.register_sql.proofs.Wholes.{posted_is}
use Rattle.register_sql.proofs.Steps.{step_then}
use Rattle.register_sql.proofs.put.put_rows.Goals as goal

pub returns-clause-wrote : goal.returns-clause-wrote
returns-clause-wrote g c clean =
    let old = state g.S.Store c.args.tx.now.conn.now in
    let mid = state g.S.Store c.put_first.new.tx.conn.now in
    let new = state g.S.Store c.put_last.new.tx.conn.now in
    let early : HasCleanDisk mid = omega (arith, c.put_last.ensures.step.survives.clean) in
    let row = posting_row c.args.row.now in
    let changes = c.args.changes.now in
    let e = c.args.entry.now in
    makes_as old new _ (with_posted row e changes) c.put_last.result (posted_is row e changes)
    (makes_then old mid new (λ x. with_each (λ s. with_spot (spot_row s)) changes.spots
    (with_posting row x)) (λ x. with_some_term (term_of e)
    (with_each (λ l. with_line (line_row l)) changes.lines x))
    c.put_last.result (c.in_ok-put_first.ensures.wrote early) (c.put_last.ensures.wrote clean))

pub returns-clause-step : goal.returns-clause-step
returns-clause-step g c = step_then _ _ _ _ _ c.put_first.ensures.step c.put_last.ensures.step
