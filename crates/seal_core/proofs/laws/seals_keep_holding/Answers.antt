use Rattle.seal_core.proofs.Kept.{holds_later}
use Rattle.seal_core.proofs.laws.seals_keep_holding.Goals as goal

pub returns : goal.returns
returns c = λ B L seal held. holds_later B L seal held
