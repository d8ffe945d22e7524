use Rattle.std.proofs.Common.{◌≡◌, IfOk, rules, subst}
use Rattle.std.proofs.lemmas.Result.{IfOk-weaker}
use Rattle.sqlite.specs.Held.{state}
use Rattle.register_sql.specs.StoredSetups.{AreSetupRows}
use Rattle.register_sql.proofs.StoredSetups.{none_held, setup_held}
use Rattle.register_sql.proofs.stored_setup.setup.Goals as goal

pub returns-in-Ok-clause-held : goal.returns-in-Ok-clause-held
returns-in-Ok-clause-held g c clean =
    let old = state g.S.Store c.args.conn.now in
    let rows = c.in-Ok.rows.items in
    let held : AreSetupRows old.now rows =
    subst (λ a. IfOk a (λ rows. AreSetupRows old.now rows.items)) c.in-Ok.is
    (c.in_ok-found.ensures.rows clean) in
    let same : rows ≡ c.deref.result.now = search rules in
    IfOk-weaker c.setup_in.result _ _ (λ found is. setup_held old.now c.deref.result.now found
    (subst (AreSetupRows old.now) same held) is) c.setup_in.ensures.some

pub returns-in-Ok-clause-none : goal.returns-in-Ok-clause-none
returns-in-Ok-clause-none g c clean =
    let old = state g.S.Store c.args.conn.now in
    let rows = c.in-Ok.rows.items in
    let held : AreSetupRows old.now rows =
    subst (λ a. IfOk a (λ rows. AreSetupRows old.now rows.items)) c.in-Ok.is
    (c.in_ok-found.ensures.rows clean) in
    let same : rows ≡ c.deref.result.now = search rules in
    IfOk-weaker c.setup_in.result _ _ (λ found none. none_held old.now c.deref.result.now found
    (subst (AreSetupRows old.now) same held) none) c.setup_in.ensures.none
