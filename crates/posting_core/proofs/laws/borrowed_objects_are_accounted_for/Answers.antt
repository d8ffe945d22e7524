use Rattle.posting_core.proofs.Guests.{borrowed_accounted}
use Rattle.posting_core.proofs.laws.borrowed_objects_are_accounted_for.Goals as goal

pub returns : goal.returns
returns c = λ o borrowed. borrowed_accounted c.args.ledger.now o c.is_lawful.ensures borrowed
