use Rattle.std.proofs.Common.{ap, ◌∙◌}
use Rattle.std.specs.Char.{encode_utf8}
use Rattle.std.specs.List.{flat_map}
use Rattle.codes_core.proofs.Characters.{all_yielded}
use Rattle.export_core.specs.Literals.{doubled}
use Rattle.export_core.proofs.Characters.{doubled-chars}
use Rattle.export_core.proofs.literals.doubled.Goals as goal

pub returns : goal.returns
returns c =
    c.loop-c.invariant
    ∙ (ap (λ cs. flat_map (λ d. doubled (encode_utf8 d)) cs)
    (all_yielded _ c.args.text.now c.utf8.text (cc) c.loop-c.yielded _ c.loop-c.yielded_by _ _
    c.in-None.is c.next.ensures.steps)
    ∙ doubled-chars c.args.text.now c.utf8.text)
