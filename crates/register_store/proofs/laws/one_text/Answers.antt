use Rattle.register_store.proofs.RoundTrip.{one_text}
use Rattle.register_store.proofs.laws.one_text.Goals as goal

pub returns : goal.returns
returns c = one_text
