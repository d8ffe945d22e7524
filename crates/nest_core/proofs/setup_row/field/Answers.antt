use Rattle.std.proofs.Common.{Bor, List, ℕ, ap, ◌∙◌, refl}
use Rattle.nest_core.proofs.Fields.{field_found}
use Rattle.nest_core.proofs.setup_row.field.Goals as goal

pub returns : goal.returns
returns c =
    ap (λ (f : Bor (List ℕ)). f.now) c.unwrap_or.ensures ∙ field_found _ c.args.i c.get.result _
    refl c.get.ensures.value
