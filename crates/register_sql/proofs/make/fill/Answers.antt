use Rattle.std.proofs.Common.{arith, map}
use Rattle.std.specs.Prelude.{string_bytes}
use Rattle.sqlite.specs.Held.{state}
use Rattle.sqlite.specs.State.{HasCleanDisk}
use Rattle.register_store.specs.StoredRows.{rows_of_meta}
use Rattle.register_sql.specs.Making.{setup_from, ReplacesSetup, AddsMeta, Fills}
use Rattle.register_sql.proofs.Filled.{goes_then, fills}
use Rattle.register_sql.proofs.Steps.{step_then}
use Rattle.register_sql.proofs.make.fill.Goals as goal

pub returns-clause-wrote : goal.returns-clause-wrote
returns-clause-wrote g c clean =
    let old = state g.S.Store c.args.tx.now.conn.now in
    let mid = state g.S.Store c.replace_setup.new.tx.conn.now in
    let new = state g.S.Store c.add_metas.new.tx.conn.now in
    let early : HasCleanDisk mid = omega (arith, c.add_metas.ensures.step.survives.clean) in
    let s = setup_from 1 (map string_bytes c.args.texts.now) in
    let m = rows_of_meta c.args.depth in
    goes_then 6 6 (ReplacesSetup s) (AddsMeta m) (Fills s m) old mid new
    c.add_metas.result (fills s m)
    (c.in_ok-replace_setup.ensures.wrote early) (c.add_metas.ensures.wrote clean)

pub returns-clause-step : goal.returns-clause-step
returns-clause-step g c = step_then _ _ _ _ _ c.replace_setup.ensures.step c.add_metas.ensures.step
