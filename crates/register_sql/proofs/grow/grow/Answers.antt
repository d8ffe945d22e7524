use Rattle.sqlite.specs.Held.{state}
use Rattle.register_sql.proofs.Regrown.{survives_after}
use Rattle.register_sql.proofs.grow.grow.Goals as goal

pub returns-in_err-grow_whole-clause-crash : goal.returns-in_err-grow_whole-clause-crash
returns-in_err-grow_whole-clause-crash g c =
    survives_after c.args.setup.now (state g.S.Store c.args.conn.now)
    (state g.S.Store c.are_all_apart.new.conn) (state g.S.Store c.grow_whole.new.conn)
    c.are_all_apart.ensures.reading.survives c.in_ok-apart.ensures.reading.same
    c.grow_whole.ensures.crash

pub returns-clause-crash : goal.returns-clause-crash
returns-clause-crash g c =
    survives_after c.args.setup.now (state g.S.Store c.args.conn.now)
    (state g.S.Store c.are_all_apart.new.conn) (state g.S.Store c.grow_whole.new.conn)
    c.are_all_apart.ensures.reading.survives c.in_ok-apart.ensures.reading.same
    c.grow_whole.ensures.crash
