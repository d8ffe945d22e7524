use Rattle.std.proofs.Common.{◌≡◌, ◌∙◌, None, Option, Some}
use Rattle.std.specs.Option.{option_map}
use Rattle.reports.proofs.sections.terms.agreed_terms.Goals as goal

some_alike : {X : Type 0} (x y : Option X) → Some x ≡ option_map Some y → x ≡ y
some_alike x None same = absurd (cc)
some_alike x (Some t) same = cc

pub returns : goal.returns
returns c = c.terms_in.ensures ∙ some_alike _ _ c.in_ok-agreement.ensures.agreement
