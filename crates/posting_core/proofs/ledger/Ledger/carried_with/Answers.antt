use Rattle.posting_core.proofs.ledger.Ledger.carried_with.Goals as goal

pub returns-in-Some-put-clause-ok : goal.returns-in-Some-put-clause-ok
returns-in-Some-put-clause-ok c = rw c.in-Some-put.is c.carried.ensures.carried
