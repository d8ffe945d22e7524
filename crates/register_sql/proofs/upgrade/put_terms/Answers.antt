use Rattle.std.proofs.Common.{◌≡◌, ◌∷◌, get_or, subst, arith, rules, drop, ◌+◌}
use Rattle.std.proofs.lemmas.List.{drop_all}
use Rattle.sqlite.specs.Held.{state}
use Rattle.sqlite.specs.State.{HasCleanDisk}
use Rattle.register_store.specs.StoredRows.{term_of}
use Rattle.register_sql.specs.Posting.{with_each, with_some_term}
use Rattle.register_sql.proofs.Ends.{survives_on, so_far_on, so_far_last, drop_next}
use Rattle.register_sql.proofs.upgrade.put_terms.Goals as goal

pub entries-preserved : goal.entries-preserved
entries-preserved g c =
    let old = state g.S.Store c.args.tx.now.conn.now in
    let mid = state g.S.Store c.entries.tx.conn.now in
    let new = state g.S.Store c.put_some_term.new.tx.conn.now in
    let rows = c.args.entries.now in
    let at = c.entries.entry-index in (
      search rules,
      survives_on old mid new c.entries.invariant.1 c.put_some_term.ensures.step.survives,
      λ clean.
          let early : HasCleanDisk mid =
          omega (arith, c.put_some_term.ensures.step.survives.clean) in
          let row = c.entry-item.result in
          let is : get_or rows at row ≡ row = search rules in
          let next = drop_next rows at row (omega (arith, c.entries-test.true)) in
          so_far_on old mid new (with_each (λ e. with_some_term (term_of e)) rows)
          (λ e. with_some_term (term_of e)) (drop at rows) (drop (at + 1) rows) row
          (subst (λ r. drop at rows ≡ r ∷ drop (at + 1) rows) is next)
          (c.entries.invariant.2 early) (c.put_some_term.ensures.step.kept clean)
          (c.in_ok-put_some_term.ensures.wrote clean),
    )

pub returns-clause-wrote : goal.returns-clause-wrote
returns-clause-wrote g c clean =
    let rows = c.args.entries.now in
    let at = c.entries.entry-index in
    so_far_last (state g.S.Store c.args.tx.now.conn.now) (state g.S.Store c.entries.tx.conn.now)
    (with_each (λ e. with_some_term (term_of e)) rows) (λ e. with_some_term (term_of e))
    (drop at rows) (drop_all at rows (omega (arith, c.entries-test.false)))
    (c.entries.invariant.2 clean)
