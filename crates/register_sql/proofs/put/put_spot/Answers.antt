use Rattle.std.proofs.Common.{Ok, arith, rules}
use Rattle.sqlite.specs.Held.{state}
use Rattle.sqlite.specs.State.{HasCleanDisk}
use Rattle.register_store.specs.StoredRows.{spot_row}
use Rattle.register_sql.proofs.Ends.{on_ok}
use Rattle.register_sql.proofs.Posted.{inserts_spot}
use Rattle.register_sql.proofs.put.put_spot.Goals as goal

pub returns-clause-wrote : goal.returns-clause-wrote
returns-clause-wrote g c clean =
    let old = state g.S.Store c.args.tx.now.conn.now in
    let new = state g.S.Store c.run.new.tx.conn.now in
    let early : HasCleanDisk old = omega (arith, c.run.ensures.step.survives.clean) in
    let within = c.requires early in
    on_ok c.run.result (c.run.ensures.ran clean within.inside)
    (λ ran. inserts_spot old new (spot_row c.args.spot.now) _ (Ok ran.0) within ran.1
    (search rules))
