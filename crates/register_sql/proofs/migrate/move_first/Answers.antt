use Rattle.std.proofs.Common.{IfErr, arith, rules, subst}
use Rattle.std.proofs.lemmas.Bool.Decides.{not_from_Decides}
use Rattle.sqlite.specs.Held.{state}
use Rattle.sqlite.specs.State.{HasCleanDisk}
use Rattle.register_sql.specs.Migrating.{IsRaised, IsLeft}
use Rattle.register_sql.specs.Profiles.{IsCompareFault}
use Rattle.register_sql.proofs.Binds.{weaker_err}
use Rattle.register_sql.proofs.Ends.{survives_on}
use Rattle.register_sql.proofs.Migrations.{left_first, left_apart, raisable_on, raised_on, left_on}
use Rattle.register_sql.proofs.Migrations.{crash_on, weaker_ok}
use Rattle.register_sql.proofs.Rising.{same_then}
use Rattle.register_sql.proofs.migrate.move_first.Goals as goal

pub returns-in-Err-clause-refused : goal.returns-in-Err-clause-refused
returns-in-Err-clause-refused g c clean =
    let S = c.args.setup.now in
    let made = c.args.made in
    let old = state g.S.Store c.args.conn.now in
    let mid = state g.S.Store c.compare.new.conn in
    let early : HasCleanDisk old = omega (arith, clean, c.compare.ensures.reading.survives.clean) in
    left_first S made c.requires.few old mid c.in-Err.fault (c.requires.part early)
    (c.requires.first early) (c.in_ok-compared.ensures.reading.same clean)
    (subst (λ a. IfErr a (IsCompareFault S made 5 old.now.trees)) c.in-Err.is
    (c.in_ok-compared.ensures.refused clean))

pub returns-then-not-apart-clause-refused : goal.returns-then-not-apart-clause-refused
returns-then-not-apart-clause-refused g c clean =
    let S = c.args.setup.now in
    let made = c.args.made in
    let old = state g.S.Store c.args.conn.now in
    let mid = state g.S.Store c.compare.new.conn in
    let late = state g.S.Store c.is_apart.new.conn in
    let now : HasCleanDisk mid = omega (arith, clean, c.is_apart.ensures.reading.survives.clean) in
    let early : HasCleanDisk old = omega (arith, now, c.compare.ensures.reading.survives.clean) in
    let complete = c.in_ok-compared.ensures.complete now in
    left_apart S made old mid late (c.requires.part early) (c.requires.first early) (search rules)
    (c.in_ok-compared.ensures.reading.same now) (c.in_ok-apart.ensures.reading.same clean)
    (not_from_Decides c.in_ok-apart.apart (c.in_ok-apart.ensures.told clean) (search rules))

pub move_entries-answer-requires-clause-raisable : goal.move_entries-answer-requires-clause-raisable
move_entries-answer-requires-clause-raisable g c clean =
    let S = c.args.setup.now in
    let made = c.args.made in
    let old = state g.S.Store c.args.conn.now in
    let mid = state g.S.Store c.compare.new.conn in
    let late = state g.S.Store c.is_apart.new.conn in
    let now : HasCleanDisk mid = omega (arith, clean, c.is_apart.ensures.reading.survives.clean) in
    let early : HasCleanDisk old = omega (arith, now, c.compare.ensures.reading.survives.clean) in
    let complete = c.in_ok-compared.ensures.complete now in
    raisable_on S made old mid late (c.requires.part early) (c.requires.first early) (search rules)
    (c.in_ok-compared.ensures.reading.same now) (c.in_ok-apart.ensures.reading.same clean)
    ((c.in_ok-apart.ensures.told clean).0 (search rules))

pub returns-clause-raised : goal.returns-clause-raised
returns-clause-raised g c clean =
    let S = c.args.setup.now in
    let old = state g.S.Store c.args.conn.now in
    let mid = state g.S.Store c.compare.new.conn in
    let late = state g.S.Store c.is_apart.new.conn in
    let new = state g.S.Store c.move_entries-answer.new.conn in
    let then : HasCleanDisk late =
    omega (arith, clean, c.move_entries-answer.ensures.crash.clean) in
    let now : HasCleanDisk mid = omega (arith, then, c.is_apart.ensures.reading.survives.clean) in
    weaker_ok (IsRaised S late new) (IsRaised S old new)
    (raised_on S old late new (same_then old mid late (c.in_ok-compared.ensures.reading.same now)
    (c.in_ok-apart.ensures.reading.same then))) c.move_entries-answer.result
    (c.move_entries-answer.ensures.raised clean)

pub returns-clause-refused : goal.returns-clause-refused
returns-clause-refused g c clean =
    let S = c.args.setup.now in
    let old = state g.S.Store c.args.conn.now in
    let mid = state g.S.Store c.compare.new.conn in
    let late = state g.S.Store c.is_apart.new.conn in
    let new = state g.S.Store c.move_entries-answer.new.conn in
    let then : HasCleanDisk late =
    omega (arith, clean, c.move_entries-answer.ensures.crash.clean) in
    let now : HasCleanDisk mid = omega (arith, then, c.is_apart.ensures.reading.survives.clean) in
    let same = same_then old mid late (c.in_ok-compared.ensures.reading.same now)
    (c.in_ok-apart.ensures.reading.same then) in
    weaker_err (IsLeft S late new) (IsLeft S old new)
    (λ fault. left_on S old late new fault same) c.move_entries-answer.result
    (c.move_entries-answer.ensures.refused clean)

pub returns-clause-crash : goal.returns-clause-crash
returns-clause-crash g c =
    let old = state g.S.Store c.args.conn.now in
    let mid = state g.S.Store c.compare.new.conn in
    let late = state g.S.Store c.is_apart.new.conn in
    crash_on c.args.setup.now old late (state g.S.Store c.move_entries-answer.new.conn)
    (survives_on old mid late c.compare.ensures.reading.survives
    c.is_apart.ensures.reading.survives)
    (λ then. same_then old mid late (c.in_ok-compared.ensures.reading.same
    (omega (arith, then, c.is_apart.ensures.reading.survives.clean)))
    (c.in_ok-apart.ensures.reading.same then)) c.move_entries-answer.ensures.crash
