use Rattle.std.proofs.Common.{◌∙◌, ◌≡◌, ◌<◌, ap, sym, subst, All, length, IfOk, List}
use Rattle.posting_core.specs.declared.entry.NewSpot.{NewSpot}
use Rattle.posting_core.specs.History.{carried_with}
use Rattle.posting_core.specs.Book.{verdict_in}
use Rattle.posting_core.proofs.Along.{asked_along}
use Rattle.posting_core.proofs.Spotted.{unplaced_spots, carried_below, found_spots}
use Rattle.posting_core.proofs.ledger.Ledger.spots_under.Goals as goal

pub returns-in_default-clause-ok : goal.returns-in_default-clause-ok
returns-in_default-clause-ok c =
    let B = c.args.self.now in
    c.new.ensures ∙ unplaced_spots B.museum B.posted (verdict_in B c.args.message.now)
    c.args.message.now (sym c.requires.put ∙ c.in_default.is)

pub spots_of-requires : goal.spots_of-requires
spots_of-requires c =
    let carried = c.requires.carried
    ∙ ap (carried_with c.args.self.now.museum c.args.self.now.posted) c.in-Some.is in
    subst (All (λ y. y < length c.args.self.now.museum.things)) (sym carried)
    (carried_below (length c.args.self.now.museum.things) _ c.in-Some.put.thing)

pub returns-in-Some-place_to-clause-ok : goal.returns-in-Some-place_to-clause-ok
returns-in-Some-place_to-clause-ok c =
    let B = c.args.self.now in
    let carried = c.requires.carried ∙ ap (carried_with B.museum B.posted) c.in-Some.is in
    subst (λ (news : List NewSpot). IfOk c.spots_of.result (λ spots. spots ≡ news))
    (found_spots B c.args.message.now c.is_lawful.ensures (sym c.requires.put ∙ c.in-Some.is)
    c.requires.number
    (sym c.day_of.ensures ∙ c.in-Some-day_of.is)
    (sym c.place_to.ensures ∙ c.in-Some-place_to.is) carried)
    c.spots_of.ensures.spots

pub returns-in-Some-place_to-clause-err : goal.returns-in-Some-place_to-clause-err
returns-in-Some-place_to-clause-err c =
    let B = c.args.self.now in
    asked_along B.museum B.posted (verdict_in B c.args.message.now) c.args.message.now c.args.put
    c.args.carried.now c.spots_of.result c.requires.put c.requires.carried
    c.spots_of.ensures.gives_up
