use Rattle.std.proofs.Common.{arith, map}
use Rattle.std.specs.Prelude.{string_bytes}
use Rattle.sqlite.specs.Held.{state}
use Rattle.sqlite.specs.State.{HasCleanDisk}
use Rattle.register_sql.specs.Making.{setup_from, ClearsSetup, AddsSetup, ReplacesSetup}
use Rattle.register_sql.proofs.Filled.{goes_then, replaces}
use Rattle.register_sql.proofs.Steps.{step_then}
use Rattle.register_sql.proofs.make.replace_setup.Goals as goal

pub returns-clause-wrote : goal.returns-clause-wrote
returns-clause-wrote g c clean =
    let old = state g.S.Store c.args.tx.now.conn.now in
    let mid = state g.S.Store c.clear_setup.new.tx.conn.now in
    let new = state g.S.Store c.add_setups.new.tx.conn.now in
    let early : HasCleanDisk mid = omega (arith, c.add_setups.ensures.step.survives.clean) in
    let s = setup_from 1 (map string_bytes c.args.texts.now) in
    goes_then 6 6 (ClearsSetup) (AddsSetup s) (ReplacesSetup s) old mid new c.add_setups.result
    (replaces s)
    (c.in_ok-clear_setup.ensures.wrote early) (c.add_setups.ensures.wrote clean)

pub returns-clause-step : goal.returns-clause-step
returns-clause-step g c = step_then _ _ _ _ _ c.clear_setup.ensures.step c.add_setups.ensures.step
