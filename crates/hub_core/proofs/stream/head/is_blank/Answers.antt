use Rattle.std.proofs.Common.{◌≡◌, ◌==◌, ◌∙◌, ap, ℕ, List, [], ◌∷◌, length, refl}
use Rattle.std.proofs.Math.Dec.{eqb-suc-zero}
use Rattle.hub_core.specs.Lines.{is_empty}
use Rattle.hub_core.proofs.stream.head.is_blank.Goals as goal

counted : (line : List ℕ) → (length line == 0) ≡ is_empty line
counted [] = refl
counted (b ∷ line) = eqb-suc-zero (length line)

pub returns : goal.returns
returns c = c.is_empty.ensures ∙ counted c.without_return.result.now ∙ ap is_empty
    c.without_return.ensures
