use Rattle.std.proofs.Common.{Option, ok_or, ap, ◌∙◌, ℤ}
use Rattle.codes_core.specs.Day.{day_fault}
use Rattle.register_store.specs.declared.fault.ReadFault.TheVariants.{BadField}
use Rattle.register_store.proofs.Fields.{read_there, day_there}
use Rattle.register_store.proofs.field.day_at.Goals as goal

pub returns-clause-exact : goal.returns-clause-exact
returns-clause-exact g c =
    let text = c.in_ok-text.ensures.exact in
    let day = day_there _ _ text in
    let bytes = c.as_bytes.ensures.value in
    let read = rw (bytes, ← day) at c.parse.ensures.exact in
    let answer = c.ok_or.ensures.value ∙ ap (λ (o : Option ℤ). ok_or o (BadField c.args.key))
    c.ok.ensures.value in
    rw answer (read_there c.args.key day_fault _ c.parse.result _ c.in_ok-text.text.now text read)
