use Rattle.std.proofs.Common.{◌≡◌, ◌==◌, [], IfOk, inr, length, rules, subst, sym}
use Rattle.std.specs.Bool.{Decides}
use Rattle.sqlite.specs.Held.{state}
use Rattle.register_sql.specs.Profiles.{IsProfile}
use Rattle.register_sql.proofs.Newness.{is_empty, new_by}
use Rattle.register_sql.proofs.bind.is_new.Goals as goal

pub returns-in-Ok-clause-told : goal.returns-in-Ok-clause-told
returns-in-Ok-clause-told g c clean =
    let old = state g.S.Store c.args.conn.now in
    let made = c.in-Ok.profile.made in
    let rows = c.in-Ok.profile.metas.items in
    let it = subst (λ a. IfOk a (λ p. IsProfile old p.made p.metas.items)) c.in-Ok.is
    (c.in_ok-found.ensures.profile clean) in
    let empty : c.is_empty.result ≡ (length rows == 0) = search rules in
    inr (new_by c.is_empty.result old made c.in-Ok.profile.few rows it
    (subst (λ b. Decides b (rows ≡ [])) (sym empty) (is_empty rows)))
