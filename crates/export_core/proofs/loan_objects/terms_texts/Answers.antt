use Rattle.std.proofs.Common.{◌∙◌, ◌++◌, [], ap, get_or, string_bytes}
use Rattle.std.proofs.lemmas.Option.{slice_get-get_or}
use Rattle.reports.specs.Terms.{agreement_with}
use Rattle.export_core.specs.Loans.{lent_if}
use Rattle.export_core.proofs.Joining.{one_more}
use Rattle.export_core.proofs.loan_objects.terms_texts.Goals as goal

pub loop-i-preserved : goal.loop-i-preserved
loop-i-preserved c =
    let objects = c.args.terms.now.objects.now in
    let i = c.loop-i.i in
    let x = get_or objects i c.index-terms-i.result in
    one_more (lent_if c.args.ledger.now (agreement_with c.args.terms.now)) objects i []
    (string_bytes c.loop-i.texts) (string_bytes c.push_str.new.self) x
    (slice_get-get_or objects i c.index-terms-i.result c.loop-i-test.true) c.loop-i.invariant
    (c.in_ok-push_str.ensures.bytes
    ∙ ap (λ t. string_bytes c.loop-i.texts ++ t)
    (c.as_str.ensures.value ∙ c.in_ok-lent.ensures))
