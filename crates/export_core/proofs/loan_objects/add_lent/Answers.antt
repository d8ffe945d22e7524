use Rattle.std.proofs.Common.{◌∙◌, ◌++◌, ap, string_bytes}
use Rattle.posting_core.specs.Book.{loans_in}
use Rattle.export_core.specs.Loans.{lent_texts}
use Rattle.export_core.proofs.Joining.{one_more}
use Rattle.export_core.proofs.loan_objects.add_lent.Goals as goal

pub loop-i-preserved : goal.loop-i-preserved
loop-i-preserved c =
    let B = c.args.ledger.now in
    one_more (lent_texts B) (loans_in B) c.loop-i.i (string_bytes c.args.script.now)
    (string_bytes c.loop-i.script) (string_bytes c.push_str.new.self) c.loan_at.result
    c.loan_at.ensures.loan c.loop-i.invariant
    (c.in_ok-push_str.ensures.bytes
    ∙ ap (λ t. string_bytes c.loop-i.script ++ t)
    (c.as_str.ensures.value ∙ c.in_ok-texts.ensures))
