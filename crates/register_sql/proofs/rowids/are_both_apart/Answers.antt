use Rattle.std.proofs.Common.{arith, rules}
use Rattle.sqlite.specs.Held.{state}
use Rattle.sqlite.specs.State.{HasCleanDisk}
use Rattle.register_sql.proofs.Rising.{part_same}
use Rattle.register_sql.proofs.Ascending.{both_apart}
use Rattle.register_sql.proofs.Steps.{reading_then}
use Rattle.register_sql.proofs.rowids.are_both_apart.Goals as goal

pub is_apart-second-requires-clause-part : goal.is_apart-second-requires-clause-part
is_apart-second-requires-clause-part g c clean =
    let old = state g.S.Store c.args.conn.now in
    let mid = state g.S.Store c.is_apart.new.conn in
    let early : HasCleanDisk old =
    omega (arith, clean, c.is_apart.ensures.reading.survives.clean) in
    part_same c.args.made old mid (c.requires.part early) (c.in_ok-first.ensures.reading.same clean)

pub returns-clause-told : goal.returns-clause-told
returns-clause-told g c clean =
    let old = state g.S.Store c.args.conn.now in
    let mid = state g.S.Store c.is_apart.new.conn in
    let early : HasCleanDisk mid =
    omega (arith, clean, c.is_apart-second.ensures.reading.survives.clean) in
    both_apart c.args.one c.args.other c.args.made old mid c.is_apart-second.result
    (c.in_ok-first.ensures.reading.same early) ((c.in_ok-first.ensures.told early).0 (search rules))
    (c.is_apart-second.ensures.told clean)

pub returns-clause-reading : goal.returns-clause-reading
returns-clause-reading g c =
    reading_then _ _ _ _ _ c.in_ok-first.ensures.reading c.is_apart-second.ensures.reading
