use Rattle.std.proofs.Common.{ap, reverse}
use Rattle.posting_core.proofs.Posted.{kept_new}
use Rattle.posting_core.proofs.ledger.Ledger.new.Goals as goal

pub invariant_of-result : goal.invariant_of-result
invariant_of-result c = kept_new c.things.ensures.count c.stations.ensures.count
    (ap reverse c.new-3.ensures.items)
    c.in_ok-nest.ensures.stands c.in_ok-nest.ensures.sized.0 c.in_ok-nest.ensures.sized.1
    c.in_ok-spots.ensures c.new-4.ensures c.new-5.ensures.items
    c.in_ok-standings.ensures
