use Rattle.std.proofs.Common.{◌≡◌, ◌==◌, ◌∙◌, ℕ, List, [], ◌∷◌, length, refl}
use Rattle.std.proofs.Math.Dec.{eqb-suc-zero}
use Rattle.hub_core.specs.Lines.{is_empty}
use Rattle.line_files.proofs.lines.is_blank.Goals as goal

counted : (line : List ℕ) → (length line == 0) ≡ is_empty line
counted [] = refl
counted (b ∷ line) = eqb-suc-zero (length line)

pub returns : goal.returns
returns c = c.is_empty.ensures ∙ counted c.args.line.now
