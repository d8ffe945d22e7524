use Rattle.std.proofs.Common.{arith, map}
use Rattle.std.specs.Prelude.{string_bytes}
use Rattle.sqlite.specs.Held.{state}
use Rattle.sqlite.specs.State.{HasCleanDisk}
use Rattle.register_store.specs.StoredRows.{rows_of_meta}
use Rattle.register_sql.specs.Making.{setup_from, Grown, Fills, MakesWhole}
use Rattle.register_sql.proofs.Filled.{goes_then, whole, apart_on}
use Rattle.register_sql.proofs.Steps.{step_then}
use Rattle.register_sql.proofs.make.make_all.Goals as goal

pub returns-clause-wrote : goal.returns-clause-wrote
returns-clause-wrote g c clean =
    let old = state g.S.Store c.args.tx.now.conn.now in
    let mid = state g.S.Store c.make_rest.new.tx.conn.now in
    let new = state g.S.Store c.fill.new.tx.conn.now in
    let early : HasCleanDisk mid = omega (arith, c.fill.ensures.step.survives.clean) in
    let s = setup_from 1 (map string_bytes c.args.texts.now) in
    let m = rows_of_meta c.args.depth in
    let k = c.args.made in
    goes_then 6 6 (Grown k 6) (Fills s m) (MakesWhole k s m) old mid new c.fill.result (whole k s m)
    (c.in_ok-make_rest.ensures.wrote early) (c.fill.ensures.wrote clean)

pub fill-requires-clause-made : goal.fill-requires-clause-made
fill-requires-clause-made g c clean = (c.in_ok-make_rest.ensures.wrote clean).is

pub fill-requires-clause-apart : goal.fill-requires-clause-apart
fill-requires-clause-apart g c clean up =
    let old = state g.S.Store c.args.tx.now.conn.now in
    let mid = state g.S.Store c.make_rest.new.tx.conn.now in
    let early : HasCleanDisk old = omega (arith, clean, c.make_rest.ensures.step.survives.clean) in
    apart_on c.args.made old mid (c.make_rest.ensures.step.kept clean)
    (c.in_ok-make_rest.ensures.wrote clean).rows (c.requires.apart early) up

pub returns-clause-step : goal.returns-clause-step
returns-clause-step g c = step_then _ _ _ _ _ c.make_rest.ensures.step c.fill.ensures.step
