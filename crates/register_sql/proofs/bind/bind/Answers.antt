use Rattle.std.proofs.Common.{IfOk, IfErr, OnOk, refl, arith, subst}
use Rattle.sqlite.specs.Held.{state}
use Rattle.sqlite.specs.State.{HasCleanDisk}
use Rattle.register_store.specs.declared.store_fault.StoreFault.TheVariants.{OtherVersion, Damaged}
use Rattle.register_sql.specs.Binding.{IsRefused, IsBoundAs}
use Rattle.register_sql.specs.Profiles.{IsProfile, IsProfileFault, IsComplete}
use Rattle.register_sql.specs.Profiles.{IsCompareFault}
use Rattle.register_sql.specs.Says.{IsIdentity}
use Rattle.register_sql.proofs.Binds.{new_there, weaker, weaker_err, bound_on, crash_on, refused_as}
use Rattle.register_sql.proofs.Binds.{refused_on, other_fault, bound_old}
use Rattle.register_sql.proofs.Profiles.{told_other, told_damaged}
use Rattle.register_sql.proofs.Unfit.{no_profile, refused_old}
use Rattle.register_sql.proofs.bind.bind.Goals as goal

pub returns-in-Err-clause-refused : goal.returns-in-Err-clause-refused
returns-in-Err-clause-refused g c clean =
    let old = state g.S.Store c.args.conn.now in
    no_profile c.args.setup.now old (state g.S.Store c.profile_of.new.conn) c.in-Err.fault
    (c.in_ok-found.ensures.reading.same clean)
    (subst (λ a. IfErr a (IsProfileFault old.now)) c.in-Err.is
    (c.in_ok-found.ensures.refused clean))

pub make_new-answer-requires-clause-new : goal.make_new-answer-requires-clause-new
make_new-answer-requires-clause-new g c clean =
    let old = state g.S.Store c.args.conn.now in
    let rows = c.in-Ok.profile.metas.items in
    let it = subst (λ a. IfOk a (λ p. IsProfile old p.made p.metas.items)) c.in-Ok.is
    (c.in_ok-found.ensures.profile clean) in
    let told = subst (λ l. IsIdentity l c.judge.result) c.deref.ensures.value c.judge.ensures in
    new_there c.in-Ok.profile.made old (state g.S.Store c.profile_of.new.conn)
    (c.in_ok-found.ensures.reading.same clean) rows it.read
    (subst (IsIdentity rows) c.in-New.is told)

pub returns-in-New-clause-bound : goal.returns-in-New-clause-bound
returns-in-New-clause-bound g c clean =
    let S = c.args.setup.now in
    let old = state g.S.Store c.args.conn.now in
    let mid = state g.S.Store c.profile_of.new.conn in
    let new = state g.S.Store c.make_new-answer.new.conn in
    let now : HasCleanDisk mid = omega (arith, clean, c.make_new-answer.ensures.crash.clean) in
    weaker (λ depth. IsBoundAs S depth mid new) (λ depth. IsBoundAs S depth old new)
    (λ depth is. bound_on S depth old mid new (c.in_ok-found.ensures.reading.same now) is)
    c.make_new-answer.result (c.make_new-answer.ensures.bound clean)

pub returns-in-New-clause-refused : goal.returns-in-New-clause-refused
returns-in-New-clause-refused g c clean =
    let S = c.args.setup.now in
    let old = state g.S.Store c.args.conn.now in
    let mid = state g.S.Store c.profile_of.new.conn in
    let new = state g.S.Store c.make_new-answer.new.conn in
    let now : HasCleanDisk mid = omega (arith, clean, c.make_new-answer.ensures.crash.clean) in
    weaker_err (IsRefused S mid new) (IsRefused S old new)
    (λ fault. refused_on S old mid new fault (c.in_ok-found.ensures.reading.same now))
    c.make_new-answer.result (c.make_new-answer.ensures.refused clean)

pub returns-in-New-clause-crash : goal.returns-in-New-clause-crash
returns-in-New-clause-crash g c =
    crash_on c.args.setup.now (state g.S.Store c.args.conn.now)
    (state g.S.Store c.profile_of.new.conn) (state g.S.Store c.make_new-answer.new.conn)
    c.profile_of.ensures.reading.survives c.in_ok-found.ensures.reading.same
    c.make_new-answer.ensures.crash

pub returns-in-OtherVersion-clause-refused : goal.returns-in-OtherVersion-clause-refused
returns-in-OtherVersion-clause-refused g c clean =
    let S = c.args.setup.now in
    let old = state g.S.Store c.args.conn.now in
    let made = c.in-Ok.profile.made in
    let rows = c.in-Ok.profile.metas.items in
    let it = subst (λ a. IfOk a (λ p. IsProfile old p.made p.metas.items)) c.in-Ok.is
    (c.in_ok-found.ensures.profile clean) in
    let told = subst (λ l. IsIdentity l c.judge.result) c.deref.ensures.value c.judge.ensures in
    refused_as S made c.in-Ok.profile.few old (state g.S.Store c.profile_of.new.conn) OtherVersion
    it.part (c.in_ok-found.ensures.reading.same clean)
    (told_other S made old.now.trees rows it.read
    (subst (IsIdentity rows) c.in-OtherVersion.is told)) (other_fault OtherVersion refl)

pub returns-in-Damaged-clause-refused : goal.returns-in-Damaged-clause-refused
returns-in-Damaged-clause-refused g c clean =
    let S = c.args.setup.now in
    let old = state g.S.Store c.args.conn.now in
    let made = c.in-Ok.profile.made in
    let rows = c.in-Ok.profile.metas.items in
    let it = subst (λ a. IfOk a (λ p. IsProfile old p.made p.metas.items)) c.in-Ok.is
    (c.in_ok-found.ensures.profile clean) in
    let told = subst (λ l. IsIdentity l c.judge.result) c.deref.ensures.value c.judge.ensures in
    refused_as S made c.in-Ok.profile.few old (state g.S.Store c.profile_of.new.conn) (Damaged 0)
    it.part (c.in_ok-found.ensures.reading.same clean)
    (told_damaged S made old.now.trees rows it.read
    (subst (IsIdentity rows) c.in-Damaged.is told)) (other_fault (Damaged 0) refl)

pub returns-in-Ok-compared-clause-bound : goal.returns-in-Ok-compared-clause-bound
returns-in-Ok-compared-clause-bound g c clean =
    let S = c.args.setup.now in
    let old = state g.S.Store c.args.conn.now in
    let mid = state g.S.Store c.profile_of.new.conn in
    let now : HasCleanDisk mid = omega (arith, clean, c.compare.ensures.reading.survives.clean) in
    let made = c.in-Ok.profile.made in
    let rows = c.in-Ok.profile.metas.items in
    let it = subst (λ a. IfOk a (λ p. IsProfile old p.made p.metas.items)) c.in-Ok.is
    (c.in_ok-found.ensures.profile now) in
    let told = subst (λ l. IsIdentity l c.judge.result) c.deref.ensures.value c.judge.ensures in
    let complete = subst (λ a. OnOk a (IsComplete S made 6 mid.now.trees)) c.in-Ok-compared.is
    (c.in_ok-compared-in-Bound.ensures.complete clean) in
    bound_old S made c.in-Bound.depth old mid (state g.S.Store c.compare.new.conn) rows it
    (subst (IsIdentity rows) c.in-Bound.is told) (c.in_ok-found.ensures.reading.same now) complete
    (c.in_ok-compared-in-Bound.ensures.reading.same clean)

pub returns-in-Err-compared-clause-refused : goal.returns-in-Err-compared-clause-refused
returns-in-Err-compared-clause-refused g c clean =
    let S = c.args.setup.now in
    let old = state g.S.Store c.args.conn.now in
    let mid = state g.S.Store c.profile_of.new.conn in
    let now : HasCleanDisk mid = omega (arith, clean, c.compare.ensures.reading.survives.clean) in
    let made = c.in-Ok.profile.made in
    let rows = c.in-Ok.profile.metas.items in
    let it = subst (λ a. IfOk a (λ p. IsProfile old p.made p.metas.items)) c.in-Ok.is
    (c.in_ok-found.ensures.profile now) in
    let told = subst (λ l. IsIdentity l c.judge.result) c.deref.ensures.value c.judge.ensures in
    let why = subst (λ a. IfErr a (IsCompareFault S made 6 mid.now.trees)) c.in-Err-compared.is
    (c.in_ok-compared-in-Bound.ensures.refused clean) in
    refused_old S made c.in-Bound.depth c.in-Ok.profile.few old mid
    (state g.S.Store c.compare.new.conn) rows c.in-Err-compared.fault it
    (subst (IsIdentity rows) c.in-Bound.is told) (c.in_ok-found.ensures.reading.same now) why
    (c.in_ok-compared-in-Bound.ensures.reading.same clean)
