use Rattle.posting_core.proofs.Onwards.{leave_uncrated}
use Rattle.posting_core.proofs.laws.no_crate_leaves_under_a_loan_in.Goals as goal

pub returns : goal.returns
returns c = leave_uncrated c.args.ledger.now.museum c.args.ledger.now.depth c.args.ledger.now.posted
    c.is_lawful.ensures
