use Rattle.sqlite.specs.Held.{state}
use Rattle.register_sql.proofs.Holds.{Laws}
use Rattle.register_sql.proofs.Runs.{shown_its}
use Rattle.register_sql.proofs.sql.SqlRegister.adopt.Goals as goal

pub returns-clause-shown : goal.returns-clause-shown
returns-clause-shown g c clean =
    let store = c.args.conn.store in
    let laws : Laws (state g.S.Store c.args.conn) =
    record {
      settled = g.met.S.Store.settled store;
      stays = g.met.S.Store.stays store;
      survives = g.met.S.Store.survives store;
    } in
    shown_its (state g.S.Store c.args.conn) laws (c.requires.open clean)
