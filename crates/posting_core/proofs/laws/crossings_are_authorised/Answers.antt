use Rattle.posting_core.proofs.LoanLaws.{crosses_authorised, crosses_in_term}
use Rattle.posting_core.proofs.laws.crossings_are_authorised.Goals as goal

pub returns-clause-authorised : goal.returns-clause-authorised
returns-clause-authorised c = crosses_authorised c.args.ledger.now.museum c.args.ledger.now.depth
    c.args.ledger.now.posted c.is_lawful.ensures

pub returns-clause-in_term : goal.returns-clause-in_term
returns-clause-in_term c = crosses_in_term c.args.ledger.now.museum c.args.ledger.now.depth
    c.args.ledger.now.posted c.is_lawful.ensures
