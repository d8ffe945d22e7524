use Rattle.posting_core.proofs.Homes.{own_accounted}
use Rattle.posting_core.proofs.laws.own_objects_are_accounted_for.Goals as goal

pub returns : goal.returns
returns c = λ o own. own_accounted c.args.ledger.now o c.is_lawful.ensures own
