use Rattle.posting_core.proofs.LastSpots.{last_is_current, unplaced_is_empty}
use Rattle.posting_core.proofs.laws.last_spot_is_current.Goals as goal

pub returns-clause-current : goal.returns-clause-current
returns-clause-current c = λ x. last_is_current c.args.ledger.now.museum c.args.ledger.now.depth
    c.args.ledger.now.posted x c.is_lawful.ensures

pub returns-clause-unplaced : goal.returns-clause-unplaced
returns-clause-unplaced c = λ x none. unplaced_is_empty _ _
    (last_is_current c.args.ledger.now.museum c.args.ledger.now.depth c.args.ledger.now.posted x
    c.is_lawful.ensures) none
