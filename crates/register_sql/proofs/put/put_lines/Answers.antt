use Rattle.std.proofs.Common.{◌≡◌, ◌∷◌, get_or, subst, arith, rules, drop, ◌+◌}
use Rattle.std.proofs.lemmas.List.{drop_all}
use Rattle.sqlite.specs.Held.{state}
use Rattle.sqlite.specs.State.{HasCleanDisk}
use Rattle.register_store.specs.StoredRows.{line_row}
use Rattle.register_sql.specs.Posting.{with_each, with_line}
use Rattle.register_sql.proofs.Ends.{survives_on, so_far_on, so_far_last, drop_next}
use Rattle.register_sql.proofs.put.put_lines.Goals as goal

pub lines-preserved : goal.lines-preserved
lines-preserved g c =
    let old = state g.S.Store c.args.tx.now.conn.now in
    let mid = state g.S.Store c.lines.tx.conn.now in
    let new = state g.S.Store c.put_line.new.tx.conn.now in
    let rows = c.args.lines.now in
    let at = c.lines.line-index in (
      search rules,
      survives_on old mid new c.lines.invariant.1 c.put_line.ensures.step.survives,
      λ clean.
          let early : HasCleanDisk mid = omega (arith, c.put_line.ensures.step.survives.clean) in
          let row = c.line-item.result in
          let is : get_or rows at row ≡ row = search rules in
          let next = drop_next rows at row (omega (arith, c.lines-test.true)) in
          so_far_on old mid new (with_each (λ l. with_line (line_row l)) rows)
          (λ l. with_line (line_row l)) (drop at rows) (drop (at + 1) rows) row
          (subst (λ r. drop at rows ≡ r ∷ drop (at + 1) rows) is next)
          (c.lines.invariant.2 early) (c.put_line.ensures.step.kept clean)
          (c.in_ok-put_line.ensures.wrote clean),
    )

pub returns-clause-wrote : goal.returns-clause-wrote
returns-clause-wrote g c clean =
    let rows = c.args.lines.now in
    let at = c.lines.line-index in
    so_far_last (state g.S.Store c.args.tx.now.conn.now) (state g.S.Store c.lines.tx.conn.now)
    (with_each (λ l. with_line (line_row l)) rows) (λ l. with_line (line_row l)) (drop at rows)
    (drop_all at rows (omega (arith, c.lines-test.false)))
    (c.lines.invariant.2 clean)
