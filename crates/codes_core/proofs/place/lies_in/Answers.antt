use Rattle.std.proofs.Common.{◌∙◌, ap, sym, ◌&&◌, drop, length}
use Rattle.codes_core.specs.Place.{ends_segment}
use Rattle.codes_core.proofs.Segments.{lies_in_front, lies_in_behind}
use Rattle.codes_core.proofs.place.lies_in.Goals as goal

pub returns-in-None : goal.returns-in-None
returns-in-None c =
    sym (lies_in_front c.args.place.now c.args.other.now
    ∙ ap (λ t. t && ends_segment (drop (length c.args.other.now) c.args.place.now))
    c.in-None.ensures.cases)

pub returns-in-Some : goal.returns-in-Some
returns-in-Some c = c.ends_segment.ensures
    ∙ sym (lies_in_behind c.args.place.now c.args.other.now c.in-Some.behind.now
    c.in-Some.ensures.cases.0 c.in-Some.ensures.cases.1)
