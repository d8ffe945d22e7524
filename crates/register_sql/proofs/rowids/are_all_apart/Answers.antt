use Rattle.std.proofs.Common.{arith, rules}
use Rattle.sqlite.specs.Held.{state}
use Rattle.sqlite.specs.State.{HasCleanDisk}
use Rattle.register_sql.proofs.Rising.{part_same}
use Rattle.register_sql.proofs.Ascending.{all_apart}
use Rattle.register_sql.proofs.Steps.{reading_then}
use Rattle.register_sql.proofs.rowids.are_all_apart.Goals as goal

pub are_both_apart-last-requires-clause-part : goal.are_both_apart-last-requires-clause-part
are_both_apart-last-requires-clause-part g c clean =
    let old = state g.S.Store c.args.conn.now in
    let mid = state g.S.Store c.are_both_apart.new.conn in
    let early : HasCleanDisk old =
    omega (arith, clean, c.are_both_apart.ensures.reading.survives.clean) in
    part_same c.args.made old mid (c.requires.part early) (c.in_ok-first.ensures.reading.same clean)

pub returns-clause-told : goal.returns-clause-told
returns-clause-told g c clean =
    let old = state g.S.Store c.args.conn.now in
    let mid = state g.S.Store c.are_both_apart.new.conn in
    let early : HasCleanDisk mid =
    omega (arith, clean, c.are_both_apart-last.ensures.reading.survives.clean) in
    all_apart c.args.made old mid c.are_both_apart-last.result
    (c.in_ok-first.ensures.reading.same early)
    ((c.in_ok-first.ensures.told early).0 (search rules))
    (c.are_both_apart-last.ensures.told clean)

pub returns-clause-reading : goal.returns-clause-reading
returns-clause-reading g c =
    reading_then _ _ _ _ _ c.in_ok-first.ensures.reading c.are_both_apart-last.ensures.reading
