use Rattle.std.proofs.Common.{List, ℕ, Bool, None, take, if◌then◌else◌, ap, sym, ◌≡◌, ◌∙◌}
use Rattle.codes_core.specs.Place.{ends_segment}
use Rattle.nest_core.specs.Museum.{find_place}
use Rattle.count_core.proofs.OuterPlaces.{none_spelled}
use Rattle.count_core.proofs.outer.outer_place.Goals as goal

pub returns-in-Err : goal.returns-in-Err
returns-in-Err c =
    let S = c.args.setup.now in
    let front : List ℕ = take c.args.end c.args.text.now in
    let none : find_place S front ≡ None =
    ap (find_place S) (sym c.split_at.ensures.front) ∙ none_spelled S c.split_at.result.0.now
    c.in-Err.field-0 c.is_museum.ensures c.in-Err.ensures.exact in
    let ends = sym (ap ends_segment c.split_at.ensures.back)
    ∙ (sym c.ends_segment.ensures ∙ c.if-not-ends_segment.false) in
    sym (ap (λ (b : Bool). if b then find_place S front else None) ends ∙ none)
