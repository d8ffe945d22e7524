use Rattle.std.proofs.Common.{◌≡◌, ◌∙◌, ◌==◌, ◌++◌, ◌∷◌, [], None, Some, ap, arith, cond, false}
use Rattle.std.proofs.Common.{length, sym, true}
use Rattle.std.specs.Option.{option_to_list}
use Rattle.std.proofs.lemmas.Bool.Decides.{nat_tests}
use Rattle.posting_core.specs.Book.{spots_in}
use Rattle.reports.proofs.Locations.{newest_is}
use Rattle.reports.proofs.reports.long_history.newest_spot.Goals as goal

pub returns-then-spot-entry_count-clause-newest : goal.returns-then-spot-entry_count-clause-newest
returns-then-spot-entry_count-clause-newest c =
    let B = c.args.ledger.now in
    let s = c.in_ok-spot.spot in
    let is : spots_in B c.args.thing ≡ c.next_back.new.self ++ s ∷ [] =
    sym c.spots.ensures.spots ∙ c.in_ok-spot.ensures.last in
    let here : (s.entry == length B.posted) ≡ true =
    grind (arith, nat_tests, c.if-spot-entry_count.true, c.entry_count.ensures.count) in
    ap (λ b. option_to_list (cond b (Some s) None)) (sym here)
    ∙ newest_is B.museum B.posted c.args.thing c.next_back.new.self s is

pub returns-else-spot-entry_count-clause-newest : goal.returns-else-spot-entry_count-clause-newest
returns-else-spot-entry_count-clause-newest c =
    let B = c.args.ledger.now in
    let s = c.in_ok-spot.spot in
    let is : spots_in B c.args.thing ≡ c.next_back.new.self ++ s ∷ [] =
    sym c.spots.ensures.spots ∙ c.in_ok-spot.ensures.last in
    let other : (s.entry == length B.posted) ≡ false =
    grind (arith, nat_tests, c.if-spot-entry_count.false, c.entry_count.ensures.count) in
    ap (λ b. option_to_list (cond b (Some s) None)) (sym other)
    ∙ newest_is B.museum B.posted c.args.thing c.next_back.new.self s is
