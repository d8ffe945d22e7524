use Rattle.std.proofs.Common.{arith}
use Rattle.sqlite.specs.Held.{state}
use Rattle.sqlite.specs.State.{HasCleanDisk}
use Rattle.register_store.specs.StoredRows.{rows_of_meta}
use Rattle.register_sql.specs.Making.{Grown}
use Rattle.register_sql.specs.Migrating.{RenewsMeta, Raises}
use Rattle.register_sql.proofs.Filled.{goes_then}
use Rattle.register_sql.proofs.Raised.{raises, apart_grown}
use Rattle.register_sql.proofs.Steps.{step_then}
use Rattle.register_sql.proofs.upgrade.raise.Goals as goal

pub returns-clause-wrote : goal.returns-clause-wrote
returns-clause-wrote g c clean =
    let old = state g.S.Store c.args.tx.now.conn.now in
    let mid = state g.S.Store c.make_at.new.tx.conn.now in
    let new = state g.S.Store c.renew_metas.new.tx.conn.now in
    let early : HasCleanDisk mid = omega (arith, c.renew_metas.ensures.step.survives.clean) in
    goes_then 6 6 (Grown 5 6) (RenewsMeta (rows_of_meta 8)) Raises old mid new
    c.renew_metas.result raises
    (c.in_ok-make_at.ensures.wrote early) (c.renew_metas.ensures.wrote clean)

pub renew_metas-requires-clause-made : goal.renew_metas-requires-clause-made
renew_metas-requires-clause-made g c clean = (c.in_ok-make_at.ensures.wrote clean).is

pub renew_metas-requires-clause-apart : goal.renew_metas-requires-clause-apart
renew_metas-requires-clause-apart g c clean up =
    let old = state g.S.Store c.args.tx.now.conn.now in
    let mid = state g.S.Store c.make_at.new.tx.conn.now in
    let early : HasCleanDisk old = omega (arith, clean, c.make_at.ensures.step.survives.clean) in
    apart_grown old mid (c.make_at.ensures.step.kept clean)
    (c.in_ok-make_at.ensures.wrote clean).rows
    (c.requires.apart early) up

pub returns-clause-step : goal.returns-clause-step
returns-clause-step g c = step_then _ _ _ _ _ c.make_at.ensures.step c.renew_metas.ensures.step
