use Rattle.std.proofs.Common.{◌≡◌, OnOk, arith, sym, subst, rules}
use Rattle.sqlite.specs.Held.{state}
use Rattle.sqlite.specs.State.{HasCleanDisk, Survives}
use Rattle.register_store.specs.Plain.{posting_row}
use Rattle.register_store.specs.StoredRows.{with_posted}
use Rattle.register_sql.specs.Posting.{LeavesWhole, IsDone}
use Rattle.register_sql.proofs.Ends.{survives_makes, done_by_commit, kept_begin, makes_begin}
use Rattle.register_sql.proofs.put.put_whole.Goals as goal

pub returns-clause-crash : goal.returns-clause-crash
returns-clause-crash g c =
    let old = c.args.conn.now in
    let mid = state g.S.Store c.put_rows.new.tx.conn.now in
    let end = c.commit.new.self.0 in
    let same : end ≡ c.conn-2-1.given.0 = search rules in
    let begun = c.transaction-tx.ensures.begun in
    let change = with_posted (posting_row c.args.row.now) c.args.entry.now c.args.changes.now in
    subst (λ h. Survives (state g.S.Store old) (state g.S.Store h)
    (LeavesWhole (state g.S.Store old) change)) same
    (survives_makes g.S.Store old mid (state g.S.Store end) change c.requires.ready
    (rw begun at c.put_rows.ensures.step.survives) c.commit.ensures.survives
    (λ clean. rw begun at (c.in_ok-put_rows.ensures.wrote clean)))

pub returns-clause-posted : goal.returns-clause-posted
returns-clause-posted g c clean =
    let old = c.args.conn.now in
    let mid = state g.S.Store c.put_rows.new.tx.conn.now in
    let begun = c.transaction-tx.ensures.begun in
    let change = with_posted (posting_row c.args.row.now) c.args.entry.now c.args.changes.now in
    let same : c.commit.new.self.0 ≡ c.conn-2-1.given.0 = search rules in
    let end = state g.S.Store c.commit.new.self.0 in
    let clean' : HasCleanDisk end =
    subst (λ h. HasCleanDisk (state g.S.Store h)) (sym same) clean in
    let early : HasCleanDisk mid = omega (arith, c.commit.ensures.survives.clean, clean') in
    subst (λ h. OnOk c.commit.result (IsDone (state g.S.Store old) (state g.S.Store h) change)) same
    (done_by_commit (state g.S.Store old) mid end change c.commit.result
    (kept_begin g.S.Store old mid (rw begun at c.put_rows.ensures.step.kept early))
    (makes_begin g.S.Store old mid change (rw begun at c.in_ok-put_rows.ensures.wrote early))
    (c.commit.ensures.ok clean'))
