use Rattle.std.proofs.Common.{rules}
use Rattle.sqlite.specs.Held.{state}
use Rattle.register_sql.proofs.Ascending.{apart_told, unmade_told}
use Rattle.register_sql.proofs.rowids.is_apart.Goals as goal

pub returns-clause-told : goal.returns-clause-told
returns-clause-told g c clean =
    let old = state g.S.Store c.args.conn.now in
    apart_told c.args.query c.args.made old.now.trees c.in_ok-rows.rows.items c.deref.result.now
    c.are_apart.result c.deref.ensures.value c.requires.ids (search rules)
    (c.in_ok-rows.ensures.rows clean)
    (c.in_ok-rows.ensures.order clean c.requires.ids) c.are_apart.ensures.apart
    c.are_apart.ensures.sorted

pub returns-then-least_of-made-clause-told : goal.returns-then-least_of-made-clause-told
returns-then-least_of-made-clause-told g c clean =
    unmade_told c.args.query c.args.made (state g.S.Store c.args.conn.now).now.trees (search rules)
