use Rattle.std.proofs.Common.{rules, ◌∙◌, ap, map, arith}
use Rattle.std.proofs.lemmas.List.{take_all}
use Rattle.std.specs.Prelude.{codes, string_bytes}
use Rattle.std.proofs.lemmas.Grind.{common_steps}
use Rattle.reports.specs.Cells.{quoted}
use Rattle.reports.proofs.Joins.{joined_alike}
use Rattle.reports.proofs.field.array_text.Goals as goal

pub loop-i-preserved : goal.loop-i-preserved
loop-i-preserved c = grind (arith, common_steps)

pub returns : goal.returns
returns c =
    let xs = c.args.codes.now in
    let all = c.loop-i.invariant ∙ ap (map quoted) (take_all c.loop-i.i xs (omega arith)) in
    let joined = joined_alike string_bytes quoted (codes ",") c.loop-i.items.items xs all in
    search rules
