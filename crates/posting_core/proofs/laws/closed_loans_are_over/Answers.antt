use Rattle.posting_core.proofs.LoanLaws.{closed_is_over}
use Rattle.posting_core.proofs.laws.closed_loans_are_over.Goals as goal

pub returns : goal.returns
returns c = λ loan closed o. closed_is_over c.args.ledger.now.museum c.args.ledger.now.posted
    loan closed o
