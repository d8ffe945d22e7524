use Rattle.std.proofs.Common.{◌≡◌, ◌++◌, ◌∙◌, ap, ap₂, subst}
use Rattle.std.specs.Result.{IfOk}
use Rattle.std.specs.String.{string_vec}
use Rattle.json.specs.Print.{print}
use Rattle.seal_core.specs.ReceiptTexts.{receipt_tokens}
use Rattle.seal_core.proofs.ReceiptTokens.{printed}
use Rattle.seal_core.proofs.receipt_writer.receipt_text.Goals as goal

pub returns : goal.returns
returns c =
    let receipt = c.args.receipt.now in
    let grown = c.in_ok-write_receipt.ensures in
    let text = subst (λ r. IfOk r (λ t. string_vec t ≡ c.into_inner.result)) c.unwrap.ensures
    c.from_utf8.ensures.ok in
    ap (λ v. v.items) text ∙ c.into_inner.ensures.items
    ∙ ap₂ (λ before tokens. before ++ print tokens)
    (grown.before ∙ c.new-out.ensures.before ∙ c.in_ok-with_capacity.ensures.items)
    (grown.tokens ∙ ap (λ tokens. tokens ++ receipt_tokens receipt) c.new-out.ensures.tokens)
    ∙ printed receipt
