use Rattle.std.proofs.Common.{rules, ◌≡◌, subst, ◌∙◌}
use Rattle.std.proofs.lemmas.Bool.Decides.{not_from_Decides}
use Rattle.register_store.specs.MessageText.{IsTextOf}
use Rattle.register_store.proofs.RoundTrip.{one_text, one_message}
use Rattle.register_store.proofs.rows.message_in.Goals as goal

pub returns-else-is_same-clause-none : goal.returns-else-is_same-clause-none
returns-else-is_same-clause-none c message text reads =
    let same : message ≡ c.in-Some.message =
    one_message message c.in-Some.message c.args.body.now reads (search rules) in
    let told = one_text c.in-Some.message _ _ c.in_ok-text.ensures.text
    (subst (λ m. IsTextOf m c.args.body.now) same text) in
    not_from_Decides c.is_same.result c.is_same.ensures c.if-is_same.false (c.deref.ensures ∙ told)
