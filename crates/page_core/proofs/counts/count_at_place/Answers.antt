use Rattle.std.proofs.Common.{ap, arith, not, sym, ◌∙◌}
use Rattle.nest_core.specs.Museum.{Museum, is_container}
use Rattle.page_core.proofs.PlaceCounts.{at_most, counts_at, counts_container, counts_unplaced}
use Rattle.page_core.proofs.PlaceCounts.{in_counts}
use Rattle.page_core.proofs.counts.count_at_place.Goals as goal

pub bounds-counts-place : goal.bounds-counts-place
bounds-counts-place c =
    in_counts c.args.ledger.now c.args.thing c.in-Some.place c.args.counts.now c.requires.counts
    c.in-Some.ensures.within

pub overflow_add-counts : goal.overflow_add-counts
overflow_add-counts c = omega (
  arith,
  c.ranges.thing.fits,
  at_most c.args.ledger.now c.args.thing
      c.in-Some.place c.args.counts.now c.requires.counts c.in-Some.ensures.within,
)

pub bounds-counts-place-in-Some : goal.bounds-counts-place-in-Some
bounds-counts-place-in-Some c =
    in_counts c.args.ledger.now c.args.thing c.in-Some.place c.args.counts.now c.requires.counts
    c.in-Some.ensures.within

pub returns-in-Some : goal.returns-in-Some
returns-in-Some c =
    let setup = ap (λ (S : Museum). not (is_container S c.args.thing)) (sym c.setup.ensures) in
    counts_at c.args.ledger.now c.args.thing c.in-Some.place c.args.counts.now c.requires.counts
    c.in-Some.ensures.within (setup ∙ (sym c.is_object.ensures ∙ c.if-is_object.true))
    (sym c.place_of.ensures.place ∙ c.in-Some.is)

pub returns-in_default : goal.returns-in_default
returns-in_default c =
    let setup = ap (λ (S : Museum). not (is_container S c.args.thing)) (sym c.setup.ensures) in
    counts_unplaced c.args.ledger.now c.args.thing c.args.counts.now c.requires.counts
    (setup ∙ (sym c.is_object.ensures ∙ c.if-is_object.true))
    (sym c.place_of.ensures.place ∙ c.in_default.is)

pub returns-else-is_object : goal.returns-else-is_object
returns-else-is_object c =
    let setup = ap (λ (S : Museum). not (is_container S c.args.thing)) (sym c.setup.ensures) in
    counts_container c.args.ledger.now c.args.thing c.args.counts.now c.requires.counts
    (setup ∙ (sym c.is_object.ensures ∙ c.if-is_object.false))
