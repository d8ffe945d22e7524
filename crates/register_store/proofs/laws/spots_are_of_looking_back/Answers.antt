use Rattle.register_store.proofs.SpotRows.{looking_back}
use Rattle.register_store.proofs.laws.spots_are_of_looking_back.Goals as goal

pub returns : goal.returns
returns c = looking_back c.args.ledger.now.museum c.args.ledger.now.posted
