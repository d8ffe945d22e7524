use Rattle.std.proofs.Common.{arith, ap, string_bytes, ◌∙◌, ◌++◌}
use Rattle.std.specs.List.{flat_map}
use Rattle.std.proofs.lemmas.Grind.{common_steps}
use Rattle.codes_core.specs.VisibleText.{visible_char}
use Rattle.codes_core.proofs.Characters.{all_yielded}
use Rattle.codes_core.proofs.visible.add_visible.Goals as goal

pub loop-c-preserved : goal.loop-c-preserved
loop-c-preserved c = grind (arith, common_steps)

pub returns : goal.returns
returns c =
    c.loop-c.invariant
    ∙ ap (λ cs. string_bytes c.args.text.now ++ flat_map visible_char cs)
    (all_yielded _ c.args.shown.now c.utf8.shown (cc) c.loop-c.yielded _ c.loop-c.yielded_by _ _
    c.in-None.is c.next.ensures.steps)
