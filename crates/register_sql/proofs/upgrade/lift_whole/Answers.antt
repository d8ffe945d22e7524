use Rattle.std.proofs.Common.{◌≡◌, OnOk, arith, sym, subst, rules}
use Rattle.sqlite.specs.Held.{state}
use Rattle.sqlite.specs.State.{HasCleanDisk, Survives}
use Rattle.register_sql.specs.Migrating.{IsLifted, LeavesLifted}
use Rattle.register_sql.proofs.Raised.{survives_lifted, lifted_by_commit}
use Rattle.register_sql.proofs.upgrade.lift_whole.Goals as goal

pub returns-clause-crash : goal.returns-clause-crash
returns-clause-crash g c =
    let old = c.args.conn.now in
    let mid = state g.S.Store c.lift.new.tx.conn.now in
    let end = c.commit.new.self.0 in
    let same : end ≡ c.conn-2-1.given.0 = search rules in
    let begun = c.transaction-tx.ensures.begun in
    let entries = c.args.entries.now in
    subst (λ h. Survives (state g.S.Store old) (state g.S.Store h)
    (LeavesLifted entries (state g.S.Store old))) same
    (survives_lifted g.S.Store entries old mid (state g.S.Store end)
    (λ clean. (c.requires.part clean).is_open) (rw begun at c.lift.ensures.step.survives)
    c.commit.ensures.survives
    (λ clean. rw begun at (c.in_ok-lift.ensures.wrote clean)))

pub returns-clause-lifted : goal.returns-clause-lifted
returns-clause-lifted g c clean =
    let old = c.args.conn.now in
    let mid = state g.S.Store c.lift.new.tx.conn.now in
    let begun = c.transaction-tx.ensures.begun in
    let entries = c.args.entries.now in
    let same : c.commit.new.self.0 ≡ c.conn-2-1.given.0 = search rules in
    let end = state g.S.Store c.commit.new.self.0 in
    let clean' : HasCleanDisk end =
    subst (λ h. HasCleanDisk (state g.S.Store h)) (sym same) clean in
    let early : HasCleanDisk mid = omega (arith, c.commit.ensures.survives.clean, clean') in
    subst (λ h. OnOk c.commit.result (IsLifted entries (state g.S.Store old) (state g.S.Store h)))
    same
    (lifted_by_commit g.S.Store entries old mid end c.commit.result
    (rw begun at (c.in_ok-lift.ensures.wrote early)) (c.commit.ensures.ok clean'))
