use Rattle.std.proofs.Common.{Option, ok_or, ap, ◌∙◌, List, ℕ}
use Rattle.codes_core.specs.Loan.{loan_fault}
use Rattle.register_store.specs.declared.fault.ReadFault.TheVariants.{BadField}
use Rattle.register_store.proofs.Fields.{read_text_there}
use Rattle.register_store.proofs.field.loan_at.Goals as goal

pub returns-clause-exact : goal.returns-clause-exact
returns-clause-exact g c =
    let read = rw c.as_bytes.ensures.value at c.parse.ensures.exact in
    let answer = c.ok_or.ensures.value ∙ ap (λ (o : Option (List ℕ)). ok_or o (BadField c.args.key))
    c.ok.ensures.value in
    rw answer (read_text_there c.args.key loan_fault c.parse.result _ c.in_ok-text.text.now
    c.in_ok-text.ensures.exact read)
