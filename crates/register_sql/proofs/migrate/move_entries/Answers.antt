use Rattle.std.proofs.Common.{◌≡◌, ◌≢◌, true, ℕ, IfOk, IfErr, All, reverse, length, arith, rules}
use Rattle.std.proofs.Common.{subst}
use Rattle.sqlite.specs.Held.{state}
use Rattle.sqlite.specs.State.{HasCleanDisk, Survives}
use Rattle.register_store.specs.Registers.{is_of_listing}
use Rattle.register_store.specs.StoredRows.{Content, HasList}
use Rattle.register_store.specs.declared.store_fault.StoreFault.TheVariants.{Store, Damaged}
use Rattle.register_sql.specs.Early.{IsEarlyOf, IsFirstEarlyWrong}
use Rattle.register_sql.specs.Migrating.{IsLifted, LeavesLifted}
use Rattle.register_sql.specs.Rows.{HasPart}
use Rattle.register_sql.proofs.Migrations.{moved_of, moved_survives, list_left, metas_there}
use Rattle.register_sql.proofs.Migrations.{lines_there}
use Rattle.register_sql.proofs.Rising.{part_same}
use Rattle.register_sql.proofs.migrate.move_entries.Goals as goal

pub returns-in-Err-clause-refused : goal.returns-in-Err-clause-refused
returns-in-Err-clause-refused g c clean =
    let S = c.args.setup.now in
    let old = state g.S.Store c.args.conn.now in
    let mid = state g.S.Store c.early_list.new.conn in
    let early : HasCleanDisk old =
    omega (arith, clean, c.early_list.ensures.reading.survives.clean) in
    let are : c.stations.result ≡ length S.stations = search rules in
    list_left S c.stations.result c.in-Err.fault old mid are (c.requires.raisable early)
    (c.in_ok-listed.ensures.reading.same clean)
    (subst (λ a. IfErr a (λ fault. is_of_listing fault ≡ true)) c.in-Err.is
    c.in_ok-listed.ensures.faults)
    (subst (λ a. IfErr a (λ fault. fault ≢ Store)) c.in-Err.is c.in_ok-listed.ensures.able)
    (subst (λ a. IfErr a (λ fault. (at : ℕ) → fault ≡ Damaged at → (k : Content)
    → HasPart 5 old.now.trees k → IsFirstEarlyWrong c.stations.result at k)) c.in-Err.is
    (c.in_ok-listed.ensures.cause clean))

pub returns-clause-raised : goal.returns-clause-raised
returns-clause-raised g c clean =
    let S = c.args.setup.now in
    let old = state g.S.Store c.args.conn.now in
    let mid = state g.S.Store c.early_list.new.conn in
    let new = state g.S.Store c.lift_whole.new.conn in
    let now : HasCleanDisk mid = omega (arith, clean, c.lift_whole.ensures.crash.clean) in
    let early : HasCleanDisk old =
    omega (arith, now, c.early_list.ensures.reading.survives.clean) in
    let entries = c.in-Ok.entries.items in
    let same : c.deref.result.now ≡ entries = c.deref.ensures.value in
    let are : c.stations.result ≡ length S.stations = search rules in
    moved_of S entries old mid new (c.requires.raisable early)
    (c.in_ok-listed.ensures.reading.same now)
    (subst (λ a. IfOk a (λ es. (k : Content) → HasPart 5 old.now.trees k
    → HasList (reverse es.items) k)) c.in-Ok.is (c.in_ok-listed.ensures.listed now))
    (subst (λ n. All (IsEarlyOf n) entries) are
    (subst (λ a. IfOk a (λ es. All (IsEarlyOf c.stations.result) es.items)) c.in-Ok.is
    c.in_ok-listed.ensures.known))
    (subst (λ es. IsLifted es mid new) same (c.in_ok-lift_whole.ensures.lifted clean))

pub returns-clause-crash : goal.returns-clause-crash
returns-clause-crash g c =
    let S = c.args.setup.now in
    let old = state g.S.Store c.args.conn.now in
    let mid = state g.S.Store c.early_list.new.conn in
    let new = state g.S.Store c.lift_whole.new.conn in
    let entries = c.in-Ok.entries.items in
    let same : c.deref.result.now ≡ entries = c.deref.ensures.value in
    let are : c.stations.result ≡ length S.stations = search rules in
    moved_survives S entries old mid new c.requires.raisable c.early_list.ensures.reading.survives
    c.in_ok-listed.ensures.reading.same
    (λ now. subst (λ a. IfOk a (λ es. (k : Content) → HasPart 5 old.now.trees k
    → HasList (reverse es.items) k)) c.in-Ok.is (c.in_ok-listed.ensures.listed now))
    (subst (λ n. All (IsEarlyOf n) entries) are
    (subst (λ a. IfOk a (λ es. All (IsEarlyOf c.stations.result) es.items)) c.in-Ok.is
    c.in_ok-listed.ensures.known))
    (subst (λ es. Survives mid new (LeavesLifted es mid)) same c.lift_whole.ensures.crash)

pub returns-in_err-lift_whole-clause-crash : goal.returns-in_err-lift_whole-clause-crash
returns-in_err-lift_whole-clause-crash g c =
    let S = c.args.setup.now in
    let old = state g.S.Store c.args.conn.now in
    let mid = state g.S.Store c.early_list.new.conn in
    let new = state g.S.Store c.lift_whole.new.conn in
    let entries = c.in-Ok.entries.items in
    let same : c.deref.result.now ≡ entries = c.deref.ensures.value in
    let are : c.stations.result ≡ length S.stations = search rules in
    moved_survives S entries old mid new c.requires.raisable c.early_list.ensures.reading.survives
    c.in_ok-listed.ensures.reading.same
    (λ now. subst (λ a. IfOk a (λ es. (k : Content) → HasPart 5 old.now.trees k
    → HasList (reverse es.items) k)) c.in-Ok.is (c.in_ok-listed.ensures.listed now))
    (subst (λ n. All (IsEarlyOf n) entries) are
    (subst (λ a. IfOk a (λ es. All (IsEarlyOf c.stations.result) es.items)) c.in-Ok.is
    c.in_ok-listed.ensures.known))
    (subst (λ es. Survives mid new (LeavesLifted es mid)) same c.lift_whole.ensures.crash)

pub lift_whole-requires-clause-part : goal.lift_whole-requires-clause-part
lift_whole-requires-clause-part g c clean =
    let old = state g.S.Store c.args.conn.now in
    let mid = state g.S.Store c.early_list.new.conn in
    let early : HasCleanDisk old =
    omega (arith, clean, c.early_list.ensures.reading.survives.clean) in
    part_same 5 old mid (c.requires.raisable early).part (c.in_ok-listed.ensures.reading.same clean)

pub lift_whole-requires-clause-metas : goal.lift_whole-requires-clause-metas
lift_whole-requires-clause-metas g c clean =
    let old = state g.S.Store c.args.conn.now in
    let mid = state g.S.Store c.early_list.new.conn in
    let early : HasCleanDisk old =
    omega (arith, clean, c.early_list.ensures.reading.survives.clean) in
    metas_there old mid (c.in_ok-listed.ensures.reading.same clean)
    (c.requires.raisable early).meta_apart

pub lift_whole-requires-clause-lines : goal.lift_whole-requires-clause-lines
lift_whole-requires-clause-lines g c clean =
    let old = state g.S.Store c.args.conn.now in
    let mid = state g.S.Store c.early_list.new.conn in
    let early : HasCleanDisk old =
    omega (arith, clean, c.early_list.ensures.reading.survives.clean) in
    lines_there old mid (c.in_ok-listed.ensures.reading.same clean)
    (c.requires.raisable early).apart
