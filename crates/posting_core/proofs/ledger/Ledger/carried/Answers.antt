use Rattle.posting_core.proofs.Posted.{carried_told, carried_there, carried_held}
use Rattle.posting_core.proofs.ledger.Ledger.carried.Goals as goal

pub returns-clause-carried : goal.returns-clause-carried
returns-clause-carried c = carried_told c.self.invariant c.self.view_is c.args.thing
    c.carried.result c.carried.ensures.found

pub returns-clause-within : goal.returns-clause-within
returns-clause-within c = carried_there c.self.invariant c.self.view_is c.args.thing
    c.carried.result c.carried.ensures.found

pub returns-clause-gives_up : goal.returns-clause-gives_up
returns-clause-gives_up c = carried_held c.self.invariant c.self.view_is c.args.thing
    c.carried.result c.carried.ensures.gives_up
