use Rattle.std.proofs.Common.{◌≡◌, IfOk, rules, subst, ◌∙◌}
use Rattle.std.proofs.lemmas.Result.{IfOk-weaker}
use Rattle.sqlite.specs.Held.{state}
use Rattle.register_sql.specs.StoredSetups.{AreSetupRows}
use Rattle.register_sql.proofs.StoredSetups.{growths_held}
use Rattle.register_sql.proofs.stored_setup.growths.Goals as goal

pub returns-in-Ok-clause-growths : goal.returns-in-Ok-clause-growths
returns-in-Ok-clause-growths g c clean =
    let old = state g.S.Store c.args.conn.now in
    let rows = c.in-Ok.rows.items in
    let held : AreSetupRows old.now rows =
    subst (λ a. IfOk a (λ rows. AreSetupRows old.now rows.items)) c.in-Ok.is
    (c.in_ok-found.ensures.rows clean) in
    let same : c.deref.result.now ≡ rows = search rules in
    IfOk-weaker c.growths_in.result _ _ (λ growths all. growths_held old.now rows growths.items held
    (λ S fits are. all S fits (same ∙ are))) c.growths_in.ensures
