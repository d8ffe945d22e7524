use Rattle.std.proofs.Common.{◌≤◌, arith, rules}
use Rattle.sqlite.specs.Held.{state}
use Rattle.sqlite.specs.State.{HasCleanDisk}
use Rattle.register_sql.specs.Queries.{IsPart}
use Rattle.register_sql.specs.Tables.{IsNoStore}
use Rattle.register_sql.proofs.Profiles.{metas_shown, no_metas}
use Rattle.register_sql.proofs.profile.profile_of.Goals as goal

pub returns-in-None-clause-refused : goal.returns-in-None-clause-refused
returns-in-None-clause-refused g c clean =
    let other : IsNoStore (state g.S.Store c.args.conn.now).now = search rules in
    other

pub returns-in-Some-eq0-clause-profile : goal.returns-in-Some-eq0-clause-profile
returns-in-Some-eq0-clause-profile g c clean = record {
  part = search rules;
  read = no_metas (state g.S.Store c.args.conn.now).now.trees _ (search rules);
}

pub returns-in_ok-metas-in-Some-clause-profile : goal.returns-in_ok-metas-in-Some-clause-profile
returns-in_ok-metas-in-Some-clause-profile g c clean =
    let old = state g.S.Store c.args.conn.now in
    let made = c.in-Some.made in
    let early : HasCleanDisk old = omega (arith, clean, c.read.ensures.reading.survives.clean) in
    let some : 1 ≤ made = search rules in
    let part : IsPart made old = search rules in
    record {
      part = part;
      read = metas_shown made old.now.trees _ some (c.in_ok-metas-in-Some.ensures.rows clean);
    }
