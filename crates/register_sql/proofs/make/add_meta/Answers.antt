use Rattle.std.proofs.Common.{Ok, arith, rules, pos}
use Rattle.sqlite.specs.Held.{state}
use Rattle.sqlite.specs.State.{HasCleanDisk}
use Rattle.register_sql.proofs.Ends.{on_ok}
use Rattle.register_sql.proofs.Filled.{added_meta}
use Rattle.register_sql.proofs.make.add_meta.Goals as goal

pub returns-clause-wrote : goal.returns-clause-wrote
returns-clause-wrote g c clean =
    let old = state g.S.Store c.args.tx.now.conn.now in
    let new = state g.S.Store c.run.new.tx.conn.now in
    let early : HasCleanDisk old = omega (arith, c.run.ensures.step.survives.clean) in
    let made = c.requires early in
    on_ok c.run.result (c.run.ensures.ran clean made.inside)
    (λ ran. added_meta old new (record { name = c.args.name.now; val = pos c.args.val }) _
    (Ok ran.0) made ran.1 (search rules))
