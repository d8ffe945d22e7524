use Rattle.std.proofs.Common.{◌+◌, arith, rules, refl}
use Rattle.sqlite.specs.Held.{state}
use Rattle.sqlite.specs.State.{HasCleanDisk}
use Rattle.register_sql.proofs.Created.{grown_still, grows_then}
use Rattle.register_sql.proofs.Ends.{survives_on, survives_still, kept_still, kept_then}
use Rattle.register_sql.proofs.make.make_rest.Goals as goal

pub tables-init : goal.tables-init
tables-init g c =
    let old = state g.S.Store c.args.tx.now.conn.now in (
      refl,
      survives_still old (λ _. ⊥),
      λ clean. (kept_still old, grown_still c.args.made old (c.requires.made clean)),
      omega arith,
    )

pub tables-preserved : goal.tables-preserved
tables-preserved g c =
    let old = state g.S.Store c.args.tx.now.conn.now in
    let mid = state g.S.Store c.tables.tx.conn.now in
    let new = state g.S.Store c.make_at.new.tx.conn.now in
    let at = c.tables.at in (
      search rules,
      survives_on old mid new c.tables.invariant.1 c.make_at.ensures.step.survives,
      λ clean.
          let early : HasCleanDisk mid = omega (arith, c.make_at.ensures.step.survives.clean) in
          let had = c.tables.invariant.2 early in (
            kept_then old mid new had.0 (c.make_at.ensures.step.kept clean),
            grows_then c.args.made at (at + 1) old mid new had.1
                (c.in_ok-make_at.ensures.wrote clean),
          ),
      omega arith,
    )
