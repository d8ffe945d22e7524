use Rattle.std.proofs.Common.{◌≡◌, OnOk, arith, sym, subst, rules, map}
use Rattle.std.specs.Prelude.{string_bytes}
use Rattle.sqlite.specs.Held.{state}
use Rattle.sqlite.specs.State.{HasCleanDisk, Survives}
use Rattle.register_store.specs.StoredRows.{rows_of_meta}
use Rattle.register_sql.specs.Making.{setup_from, IsMadeWhole, LeavesMade}
use Rattle.register_sql.proofs.Filled.{survives_made, made_by_commit, goes_begin}
use Rattle.register_sql.proofs.make.make_whole.Goals as goal

pub returns-clause-crash : goal.returns-clause-crash
returns-clause-crash g c =
    let old = c.args.conn.now in
    let mid = state g.S.Store c.make_all.new.tx.conn.now in
    let end = c.commit.new.self.0 in
    let same : end ≡ c.conn-2-1.given.0 = search rules in
    let begun = c.transaction-tx.ensures.begun in
    let s = setup_from 1 (map string_bytes c.args.texts.now) in
    let m = rows_of_meta c.args.depth in
    subst (λ h. Survives (state g.S.Store old) (state g.S.Store h)
    (LeavesMade c.args.made s m (state g.S.Store old))) same
    (survives_made g.S.Store old mid (state g.S.Store end) c.args.made s m
    (λ clean. (c.requires.part clean).is_open) (rw begun at c.make_all.ensures.step.survives)
    c.commit.ensures.survives
    (λ clean. rw begun at (c.in_ok-make_all.ensures.wrote clean)))

pub returns-clause-made : goal.returns-clause-made
returns-clause-made g c clean =
    let old = c.args.conn.now in
    let mid = state g.S.Store c.make_all.new.tx.conn.now in
    let begun = c.transaction-tx.ensures.begun in
    let s = setup_from 1 (map string_bytes c.args.texts.now) in
    let m = rows_of_meta c.args.depth in
    let same : c.commit.new.self.0 ≡ c.conn-2-1.given.0 = search rules in
    let end = state g.S.Store c.commit.new.self.0 in
    let clean' : HasCleanDisk end =
    subst (λ h. HasCleanDisk (state g.S.Store h)) (sym same) clean in
    let early : HasCleanDisk mid = omega (arith, c.commit.ensures.survives.clean, clean') in
    subst (λ h. OnOk c.commit.result
    (IsMadeWhole c.args.made s m (state g.S.Store old) (state g.S.Store h))) same
    (made_by_commit (state g.S.Store old) mid end c.args.made s m c.commit.result
    (goes_begin g.S.Store old mid _ (rw begun at c.in_ok-make_all.ensures.wrote early))
    (c.commit.ensures.ok clean'))
