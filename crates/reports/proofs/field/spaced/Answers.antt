use Rattle.std.proofs.Common.{rules, ◌∙◌, arith}
use Rattle.std.proofs.lemmas.List.{take_all}
use Rattle.std.specs.Prelude.{codes, string_bytes}
use Rattle.std.proofs.lemmas.Grind.{common_steps}
use Rattle.reports.proofs.Joins.{joined_as}
use Rattle.reports.proofs.field.spaced.Goals as goal

pub loop-i-preserved : goal.loop-i-preserved
loop-i-preserved c = grind (arith, common_steps)

pub returns : goal.returns
returns c =
    let xs = c.args.codes.now in
    let joined = joined_as string_bytes (codes " ") c.loop-i.texts.items xs
    (c.loop-i.invariant ∙ take_all c.loop-i.i xs (omega arith)) in
    search rules
