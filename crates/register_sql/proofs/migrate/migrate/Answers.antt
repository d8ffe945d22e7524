use Rattle.std.proofs.Common.{IfOk, IfErr, refl, arith, subst}
use Rattle.sqlite.specs.Held.{state}
use Rattle.sqlite.specs.State.{HasCleanDisk}
use Rattle.register_store.specs.declared.store_fault.StoreFault.TheVariants.{OtherVersion, Damaged}
use Rattle.register_sql.specs.Ages.{IsAged}
use Rattle.register_sql.specs.Migrating.{IsRaised, IsLeft}
use Rattle.register_sql.specs.Profiles.{IsProfile, IsProfileFault}
use Rattle.register_sql.proofs.Binds.{other_fault, weaker_err}
use Rattle.register_sql.proofs.Migrations.{left_as, left_no_profile, says_nothing, says_other}
use Rattle.register_sql.proofs.Migrations.{says_damaged, second_as, first_there, raised_on, left_on}
use Rattle.register_sql.proofs.Migrations.{crash_on, weaker_ok}
use Rattle.register_sql.proofs.migrate.migrate.Goals as goal

pub returns-in-Err-clause-refused : goal.returns-in-Err-clause-refused
returns-in-Err-clause-refused g c clean =
    let old = state g.S.Store c.args.conn.now in
    left_no_profile c.args.setup.now old (state g.S.Store c.profile_of.new.conn) c.in-Err.fault
    (c.in_ok-found.ensures.reading.same clean)
    (subst (λ a. IfErr a (IsProfileFault old.now)) c.in-Err.is
    (c.in_ok-found.ensures.refused clean))

pub returns-in-New-clause-refused : goal.returns-in-New-clause-refused
returns-in-New-clause-refused g c clean =
    let S = c.args.setup.now in
    let old = state g.S.Store c.args.conn.now in
    let made = c.in-Ok.profile.made in
    let rows = c.in-Ok.profile.metas.items in
    let it = subst (λ a. IfOk a (λ p. IsProfile old p.made p.metas.items)) c.in-Ok.is
    (c.in_ok-found.ensures.profile clean) in
    let told = subst (λ l. IsAged l c.age_of.result) c.deref.ensures.value c.age_of.ensures in
    left_as S made c.in-Ok.profile.few old (state g.S.Store c.profile_of.new.conn) OtherVersion
    it.part (c.in_ok-found.ensures.reading.same clean)
    (says_nothing S made old.now.trees rows it.read (subst (IsAged rows) c.in-New.is told))
    (other_fault OtherVersion refl)

pub returns-in-Other-clause-refused : goal.returns-in-Other-clause-refused
returns-in-Other-clause-refused g c clean =
    let S = c.args.setup.now in
    let old = state g.S.Store c.args.conn.now in
    let made = c.in-Ok.profile.made in
    let rows = c.in-Ok.profile.metas.items in
    let it = subst (λ a. IfOk a (λ p. IsProfile old p.made p.metas.items)) c.in-Ok.is
    (c.in_ok-found.ensures.profile clean) in
    let told = subst (λ l. IsAged l c.age_of.result) c.deref.ensures.value c.age_of.ensures in
    left_as S made c.in-Ok.profile.few old (state g.S.Store c.profile_of.new.conn) OtherVersion
    it.part (c.in_ok-found.ensures.reading.same clean)
    (says_other S made old.now.trees rows it.read (subst (IsAged rows) c.in-Other.is told))
    (other_fault OtherVersion refl)

pub returns-in-Damaged-clause-refused : goal.returns-in-Damaged-clause-refused
returns-in-Damaged-clause-refused g c clean =
    let S = c.args.setup.now in
    let old = state g.S.Store c.args.conn.now in
    let made = c.in-Ok.profile.made in
    let rows = c.in-Ok.profile.metas.items in
    let it = subst (λ a. IfOk a (λ p. IsProfile old p.made p.metas.items)) c.in-Ok.is
    (c.in_ok-found.ensures.profile clean) in
    let told = subst (λ l. IsAged l c.age_of.result) c.deref.ensures.value c.age_of.ensures in
    left_as S made c.in-Ok.profile.few old (state g.S.Store c.profile_of.new.conn) (Damaged 0)
    it.part (c.in_ok-found.ensures.reading.same clean)
    (says_damaged S made old.now.trees rows it.read (subst (IsAged rows) c.in-Damaged.is told))
    (other_fault (Damaged 0) refl)

pub returns-in-Second-clause-raised : goal.returns-in-Second-clause-raised
returns-in-Second-clause-raised g c clean =
    let old = state g.S.Store c.args.conn.now in
    let rows = c.in-Ok.profile.metas.items in
    let it = subst (λ a. IfOk a (λ p. IsProfile old p.made p.metas.items)) c.in-Ok.is
    (c.in_ok-found.ensures.profile clean) in
    let told = subst (λ l. IsAged l c.age_of.result) c.deref.ensures.value c.age_of.ensures in
    second_as c.args.setup.now c.in-Ok.profile.made c.in-Ok.profile.few old
    (state g.S.Store c.profile_of.new.conn) rows it (c.in_ok-found.ensures.reading.same clean)
    (subst (IsAged rows) c.in-Second.is told)

pub move_first-answer-requires-clause-first : goal.move_first-answer-requires-clause-first
move_first-answer-requires-clause-first g c clean =
    let old = state g.S.Store c.args.conn.now in
    let rows = c.in-Ok.profile.metas.items in
    let it = subst (λ a. IfOk a (λ p. IsProfile old p.made p.metas.items)) c.in-Ok.is
    (c.in_ok-found.ensures.profile clean) in
    let told = subst (λ l. IsAged l c.age_of.result) c.deref.ensures.value c.age_of.ensures in
    first_there c.in-Ok.profile.made old (state g.S.Store c.profile_of.new.conn)
    (c.in_ok-found.ensures.reading.same clean) rows it.read (subst (IsAged rows) c.in-First.is told)

pub returns-in-First-clause-raised : goal.returns-in-First-clause-raised
returns-in-First-clause-raised g c clean =
    let S = c.args.setup.now in
    let old = state g.S.Store c.args.conn.now in
    let mid = state g.S.Store c.profile_of.new.conn in
    let new = state g.S.Store c.move_first-answer.new.conn in
    let now : HasCleanDisk mid = omega (arith, clean, c.move_first-answer.ensures.crash.clean) in
    weaker_ok (IsRaised S mid new) (IsRaised S old new)
    (raised_on S old mid new (c.in_ok-found.ensures.reading.same now)) c.move_first-answer.result
    (c.move_first-answer.ensures.raised clean)

pub returns-in-First-clause-refused : goal.returns-in-First-clause-refused
returns-in-First-clause-refused g c clean =
    let S = c.args.setup.now in
    let old = state g.S.Store c.args.conn.now in
    let mid = state g.S.Store c.profile_of.new.conn in
    let new = state g.S.Store c.move_first-answer.new.conn in
    let now : HasCleanDisk mid = omega (arith, clean, c.move_first-answer.ensures.crash.clean) in
    weaker_err (IsLeft S mid new) (IsLeft S old new)
    (λ fault. left_on S old mid new fault (c.in_ok-found.ensures.reading.same now))
    c.move_first-answer.result (c.move_first-answer.ensures.refused clean)

pub returns-in-First-clause-crash : goal.returns-in-First-clause-crash
returns-in-First-clause-crash g c =
    crash_on c.args.setup.now (state g.S.Store c.args.conn.now)
    (state g.S.Store c.profile_of.new.conn) (state g.S.Store c.move_first-answer.new.conn)
    c.profile_of.ensures.reading.survives c.in_ok-found.ensures.reading.same
    c.move_first-answer.ensures.crash
