use Rattle.hub_core.proofs.PrepareLemmas.{not_bound}
use Rattle.hub_core.proofs.hub.opening.bound.Goals as goal

pub returns-in-Err-clause-refused : goal.returns-in-Err-clause-refused
returns-in-Err-clause-refused g c =
    not_bound (g.R.Register.holding c.args.register.now) (g.R.Register.holding c.bind.new.self)
    c.args.setup c.in-Err.fault c.in-Err.ensures.refused
