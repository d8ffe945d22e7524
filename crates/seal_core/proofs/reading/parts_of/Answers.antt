use Rattle.std.proofs.Common.{◌≡◌, ◌-◌, ◌∙◌, ap, arith, List, ℕ, length, take, drop}
use Rattle.std.proofs.lemmas.List.{length-drop, take_all}
use Rattle.seal_core.proofs.reading.parts_of.Goals as goal

rest_of : (rest after : List ℕ) → rest ≡ after → take (length rest - 8) (drop 8 rest) ≡ drop 8 after
rest_of rest after same =
    let long = length-drop 8 rest in
    take_all (length rest - 8) (drop 8 rest) (omega (arith, long)) ∙ ap (drop 8) same

pub returns-then-starts_with-clause-digits : goal.returns-then-starts_with-clause-digits
returns-then-starts_with-clause-digits c =
    rest_of _ _
    (c.split_at.ensures.back ∙ ap (λ n. drop n c.args.line.now) c.saturating_sub.ensures)
