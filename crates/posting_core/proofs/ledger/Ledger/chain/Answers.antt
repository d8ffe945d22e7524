use Rattle.posting_core.proofs.Posted.{chain_within, chain_short, chain_some}
use Rattle.posting_core.proofs.ledger.Ledger.chain.Goals as goal

pub returns-clause-within : goal.returns-clause-within
returns-clause-within c = chain_within c.self.invariant c.self.view_is c.args.thing c.chain.result
    c.chain.ensures.chain

pub returns-clause-short : goal.returns-clause-short
returns-clause-short c = chain_short c.self.invariant c.self.view_is c.args.thing c.chain.result
    c.chain.ensures.chain

pub returns-clause-err : goal.returns-clause-err
returns-clause-err c = chain_some c.self.invariant c.self.view_is c.args.thing c.chain.result
    c.chain.ensures.err
