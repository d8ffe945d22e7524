use Rattle.std.proofs.Common.{◌≡◌, arith, rules, subst}
use Rattle.sqlite.specs.Held.{state}
use Rattle.sqlite.specs.State.{HasCleanDisk}
use Rattle.register_store.specs.StoredRows.{line_row, term_of}
use Rattle.register_sql.specs.Posting.{Makes, with_each, with_line, with_some_term}
use Rattle.register_sql.proofs.Ends.{makes_then}
use Rattle.register_sql.proofs.Steps.{step_then}
use Rattle.register_sql.proofs.put.put_last.Goals as goal

pub returns-clause-wrote : goal.returns-clause-wrote
returns-clause-wrote g c clean =
    let old = state g.S.Store c.args.tx.now.conn.now in
    let mid = state g.S.Store c.put_lines.new.tx.conn.now in
    let new = state g.S.Store c.put_some_term.new.tx.conn.now in
    let early : HasCleanDisk mid = omega (arith, c.put_some_term.ensures.step.survives.clean) in
    let lines = c.args.changes.now.lines in
    let is : c.as_slice.result.now ≡ lines = search rules in
    makes_then old mid new (with_each (λ l. with_line (line_row l)) lines)
    (with_some_term (term_of c.args.entry.now)) c.put_some_term.result
    (subst (λ l. Makes old mid (with_each (λ r. with_line (line_row r)) l)) is
    (c.in_ok-put_lines.ensures.wrote early)) (c.put_some_term.ensures.wrote clean)

pub returns-clause-step : goal.returns-clause-step
returns-clause-step g c = step_then _ _ _ _ _ c.put_lines.ensures.step c.put_some_term.ensures.step
