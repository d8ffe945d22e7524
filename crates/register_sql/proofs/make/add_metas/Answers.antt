use Rattle.std.proofs.Common.{arith, ◌∷◌, [], codes, pos}
use Rattle.sqlite.specs.Held.{state}
use Rattle.sqlite.specs.State.{HasCleanDisk}
use Rattle.register_store.specs.StoredRows.{MetaRow, rows_of_meta}
use Rattle.register_sql.specs.Making.{AddsMeta}
use Rattle.register_sql.proofs.Filled.{goes_then, two_metas}
use Rattle.register_sql.proofs.Steps.{step_then}
use Rattle.register_sql.proofs.make.add_metas.Goals as goal

pub returns-clause-wrote : goal.returns-clause-wrote
returns-clause-wrote g c clean =
    let old = state g.S.Store c.args.tx.now.conn.now in
    let mid = state g.S.Store c.add_meta.new.tx.conn.now in
    let new = state g.S.Store c.add_meta-version.new.tx.conn.now in
    let early : HasCleanDisk mid = omega (arith, c.add_meta-version.ensures.step.survives.clean) in
    let d : MetaRow = record { name = codes "depth"; val = pos c.args.depth } in
    let v : MetaRow = record { name = codes "version"; val = pos 2 } in
    goes_then 6 6 (AddsMeta (d ∷ [])) (AddsMeta (v ∷ [])) (AddsMeta (rows_of_meta c.args.depth)) old
    mid new c.add_meta-version.result (two_metas v d)
    (c.in_ok-add_meta.ensures.wrote early) (c.add_meta-version.ensures.wrote clean)

pub returns-clause-step : goal.returns-clause-step
returns-clause-step g c =
    step_then _ _ _ _ _ c.add_meta.ensures.step c.add_meta-version.ensures.step
