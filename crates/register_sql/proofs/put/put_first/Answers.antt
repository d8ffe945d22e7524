use Rattle.std.proofs.Common.{◌≡◌, arith, rules, OnOk, subst}
use Rattle.sqlite.specs.Held.{state}
use Rattle.sqlite.specs.State.{HasCleanDisk}
use Rattle.register_store.specs.Plain.{posting_row}
use Rattle.register_store.specs.StoredRows.{spot_row}
use Rattle.register_sql.specs.Posting.{Makes, with_each, with_posting, with_spot}
use Rattle.register_sql.proofs.Ends.{makes_then}
use Rattle.register_sql.proofs.Steps.{step_then}
use Rattle.register_sql.proofs.put.put_first.Goals as goal

pub returns-clause-wrote : goal.returns-clause-wrote
returns-clause-wrote g c clean =
    let mid = state g.S.Store c.put_posting.new.tx.conn.now in
    let new = state g.S.Store c.put_spots.new.tx.conn.now in
    let early : HasCleanDisk mid = omega (arith, c.put_spots.ensures.step.survives.clean) in
    let spots = c.args.changes.now.spots in
    let is : c.as_slice.result.now ≡ spots = search rules in
    makes_then (state g.S.Store c.args.tx.now.conn.now) mid new
    (with_posting (posting_row c.args.row.now)) (with_each (λ s. with_spot (spot_row s)) spots)
    c.put_spots.result
    (c.in_ok-put_posting.ensures.wrote early)
    (subst (λ l. OnOk c.put_spots.result
    (Makes mid new (with_each (λ s. with_spot (spot_row s)) l))) is
    (c.put_spots.ensures.wrote clean))

pub returns-clause-step : goal.returns-clause-step
returns-clause-step g c = step_then _ _ _ _ _ c.put_posting.ensures.step c.put_spots.ensures.step
