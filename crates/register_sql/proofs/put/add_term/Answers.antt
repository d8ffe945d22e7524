use Rattle.std.proofs.Common.{Ok, arith, rules}
use Rattle.sqlite.specs.Held.{state}
use Rattle.sqlite.specs.State.{HasCleanDisk}
use Rattle.register_sql.proofs.Ends.{on_ok}
use Rattle.register_sql.proofs.Posted.{inserts_term}
use Rattle.register_sql.proofs.put.add_term.Goals as goal

pub returns-clause-wrote : goal.returns-clause-wrote
returns-clause-wrote g c clean =
    let old = state g.S.Store c.args.tx.now.conn.now in
    let new = state g.S.Store c.run.new.tx.conn.now in
    let early : HasCleanDisk old = omega (arith, c.run.ensures.step.survives.clean) in
    let within = c.requires early in
    on_ok c.run.result (c.run.ensures.ran clean within.inside)
    (λ ran. inserts_term old new (record { loan = c.args.term.now.0; day = c.args.term.now.1 })
    _ (Ok ran.0) within ran.1 (search rules))
