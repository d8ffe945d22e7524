use Rattle.std.proofs.Common.{arith}
use Rattle.sqlite.specs.Held.{state}
use Rattle.sqlite.specs.State.{HasCleanDisk}
use Rattle.register_store.specs.StoredRows.{rows_of_meta}
use Rattle.register_sql.specs.Making.{AddsMeta}
use Rattle.register_sql.specs.Migrating.{ClearsMeta, RenewsMeta}
use Rattle.register_sql.proofs.Filled.{goes_then}
use Rattle.register_sql.proofs.Raised.{renews}
use Rattle.register_sql.proofs.Steps.{step_then}
use Rattle.register_sql.proofs.upgrade.renew_metas.Goals as goal

pub returns-clause-wrote : goal.returns-clause-wrote
returns-clause-wrote g c clean =
    let old = state g.S.Store c.args.tx.now.conn.now in
    let mid = state g.S.Store c.clear_metas.new.tx.conn.now in
    let new = state g.S.Store c.add_metas.new.tx.conn.now in
    let early : HasCleanDisk mid = omega (arith, c.add_metas.ensures.step.survives.clean) in
    goes_then 6 6 ClearsMeta (AddsMeta (rows_of_meta 8)) (RenewsMeta (rows_of_meta 8)) old mid new
    c.add_metas.result (renews (rows_of_meta 8))
    (c.in_ok-clear_metas.ensures.wrote early) (c.add_metas.ensures.wrote clean)

pub returns-clause-step : goal.returns-clause-step
returns-clause-step g c = step_then _ _ _ _ _ c.clear_metas.ensures.step c.add_metas.ensures.step
