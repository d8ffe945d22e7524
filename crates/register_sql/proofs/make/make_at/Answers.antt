use Rattle.std.proofs.Common.{◌≡◌, arith, rules}
use Rattle.sqlite.specs.Held.{state}
use Rattle.sqlite.specs.State.{HasCleanDisk}
use Rattle.register_sql.specs.Making.{create_of}
use Rattle.register_sql.proofs.Ends.{on_ok}
use Rattle.register_sql.proofs.Created.{made_by}
use Rattle.register_sql.proofs.make.make_at.Goals as goal

pub returns-clause-wrote : goal.returns-clause-wrote
returns-clause-wrote g c clean =
    let old = state g.S.Store c.args.tx.now.conn.now in
    let new = state g.S.Store c.run.new.tx.conn.now in
    let early : HasCleanDisk old = omega (arith, c.run.ensures.step.survives.clean) in
    let made = c.requires.made early in
    let is : c.create_text-text.result.now ≡ create_of c.args.at = search rules in
    on_ok c.run.result (c.run.ensures.ran clean made.inside)
    (λ ran. made_by c.args.at c.requires.few _ is old new ran.0 made ran.1)
