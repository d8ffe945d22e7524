use Rattle.std.proofs.Common.{arith, subst}
use Rattle.std.specs.Io.KnownBytes.{Appends}
use Rattle.std.specs.List.{flat_map}
use Rattle.std.proofs.lemmas.Grind.{common_steps}
use Rattle.codes_core.specs.VisibleText.{line_char}
use Rattle.codes_core.proofs.Characters.{all_yielded}
use Rattle.codes_core.proofs.written.write_on_one_line.Goals as goal

pub loop-c-preserved : goal.loop-c-preserved
loop-c-preserved g c = grind (arith, common_steps)

pub returns : goal.returns
returns g c =
    subst (λ cs. Appends (g.W.Write.contents c.args.output.now)
    (g.W.Write.contents c.loop-c.output) (flat_map line_char cs))
    (all_yielded _ c.args.shown.now c.utf8.shown (cc) c.loop-c.yielded _ c.loop-c.yielded_by _ _
    c.in-None.is c.next.ensures.steps) c.loop-c.invariant
