use Rattle.std.proofs.Common.{◌≡◌, OnOk, arith, sym, subst, rules}
use Rattle.sqlite.specs.Held.{state}
use Rattle.sqlite.specs.State.{HasCleanDisk, Survives}
use Rattle.register_sql.specs.Growing.{with_setup}
use Rattle.register_sql.specs.Posting.{IsDone, LeavesWhole}
use Rattle.register_sql.proofs.Filled.{goes_begin}
use Rattle.register_sql.proofs.Regrown.{survives_grown, grown_by_commit}
use Rattle.register_sql.proofs.grow.grow_whole.Goals as goal

pub returns-clause-crash : goal.returns-clause-crash
returns-clause-crash g c =
    let old = c.args.conn.now in
    let S = c.args.setup.now in
    let mid = state g.S.Store c.replace_setup.new.tx.conn.now in
    let end = c.commit.new.self.0 in
    let same : end ≡ c.conn-2-1.given.0 = search rules in
    let begun = c.transaction-tx.ensures.begun in
    subst (λ h. Survives (state g.S.Store old) (state g.S.Store h)
    (LeavesWhole (state g.S.Store old) (with_setup S))) same
    (survives_grown g.S.Store S old mid (state g.S.Store end) c.requires.ready
    (rw begun at c.replace_setup.ensures.step.survives) c.commit.ensures.survives
    (λ clean. rw (begun, c.requires.texts) at (c.in_ok-replace_setup.ensures.wrote clean)))

pub returns-clause-grown : goal.returns-clause-grown
returns-clause-grown g c clean =
    let old = c.args.conn.now in
    let S = c.args.setup.now in
    let mid = state g.S.Store c.replace_setup.new.tx.conn.now in
    let begun = c.transaction-tx.ensures.begun in
    let same : c.commit.new.self.0 ≡ c.conn-2-1.given.0 = search rules in
    let end = state g.S.Store c.commit.new.self.0 in
    let clean' : HasCleanDisk end =
    subst (λ h. HasCleanDisk (state g.S.Store h)) (sym same) clean in
    let now : HasCleanDisk mid = omega (arith, c.commit.ensures.survives.clean, clean') in
    let early : HasCleanDisk (state g.S.Store old) =
    omega (arith, (rw begun at c.replace_setup.ensures.step.survives).clean, now) in
    subst (λ h. OnOk c.commit.result (IsDone (state g.S.Store old) (state g.S.Store h)
    (with_setup S))) same
    (grown_by_commit S (state g.S.Store old) mid (c.requires.ready early)
    (goes_begin g.S.Store old mid _
    (rw (begun, c.requires.texts) at (c.in_ok-replace_setup.ensures.wrote now)))
    end c.commit.result (c.commit.ensures.ok clean'))
