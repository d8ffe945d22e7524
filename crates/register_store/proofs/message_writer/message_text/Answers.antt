use Rattle.std.proofs.Common.{◌≡◌, ◌∙◌, ◌++◌, ap, ap₂, subst}
use Rattle.std.specs.Result.{IfOk}
use Rattle.std.specs.String.{string_vec}
use Rattle.json.specs.Print.{print}
use Rattle.serde_json.proofs.Texts.{print-outline}
use Rattle.register_store.specs.Kinds.{of_bytes}
use Rattle.register_store.specs.MessageText.{json}
use Rattle.register_store.specs.MessageTokens.{tokens_of}
use Rattle.register_store.proofs.message_writer.message_text.Goals as goal

pub returns-clause-text : goal.returns-clause-text
returns-clause-text c =
    let m = c.args.message.now in
    let grown = c.in_ok-write_message.ensures.tokens in
    let text =
    subst (λ r. IfOk r (λ t. string_vec t ≡ c.into_inner.result)) c.unwrap.ensures
    c.from_utf8.ensures.ok in
    ap (λ v. v.items) text ∙ c.into_inner.ensures.items
    ∙ ap₂ (λ b ts. b ++ print ts)
    (grown.before ∙ c.new-out.ensures.before ∙ c.in_ok-with_capacity.ensures.items)
    (grown.tokens ∙ ap (λ ts. ts ++ tokens_of m) c.new-out.ensures.tokens)
    ∙ print-outline (json m)

pub returns-clause-reads_back : goal.returns-clause-reads_back
returns-clause-reads_back c =
    ap of_bytes (returns-clause-text c) ∙ c.in_ok-write_message.ensures.reads_back
