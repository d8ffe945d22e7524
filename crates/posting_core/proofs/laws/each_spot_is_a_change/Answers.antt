use Rattle.posting_core.proofs.LastSpots.{spots_apart}
use Rattle.posting_core.proofs.laws.each_spot_is_a_change.Goals as goal

pub returns : goal.returns
returns c = λ x. spots_apart c.args.ledger.now.museum c.args.ledger.now.depth
    c.args.ledger.now.posted x c.is_lawful.ensures
