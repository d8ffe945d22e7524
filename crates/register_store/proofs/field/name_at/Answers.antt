use Rattle.std.proofs.Common.{◌≡◌, true, ap, sym, subst, ◌∙◌, unwrap_or, Option, List, [], ℕ}
use Rattle.codes_core.specs.Name.{IsName}
use Rattle.register_store.proofs.Fields.{text_fault, name_passes}
use Rattle.register_store.specs.Spelling.{is_name}
use Rattle.register_store.proofs.field.name_at.Goals as goal

pub returns-in-Ok-clause-exact : goal.returns-in-Ok-clause-exact
returns-in-Ok-clause-exact g c =
    let text = c.in_ok-text.ensures.exact in
    let bytes = c.as_bytes.ensures.value in
    let named : is_name c.in_ok-text.text.now ≡ true =
    name_passes _ (subst IsName bytes c.in-Ok.ensures.exact.1) in (
      text_fault c.args.key is_name _ _ text ∙ rw named,
      c.in-Ok.ensures.exact.0 ∙ bytes ∙ sym (ap (λ (o : Option (List ℕ)). unwrap_or o []) text),
    )

pub returns-in-Err-NoMemory-clause-gives_up : goal.returns-in-Err-NoMemory-clause-gives_up
returns-in-Err-NoMemory-clause-gives_up g c = λ gave_up.
    let text = c.in_ok-text.ensures.exact in
    let name : IsName c.as_bytes.result.now =
    rw c.in-Err-NoMemory.field-0-is at c.in-Err-NoMemory.ensures.exact in
    let named : is_name c.in_ok-text.text.now ≡ true =
    name_passes _ (subst IsName c.as_bytes.ensures.value name) in
    text_fault c.args.key is_name _ _ text ∙ rw named
