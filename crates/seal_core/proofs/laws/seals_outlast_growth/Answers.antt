use Rattle.seal_core.proofs.GrownLeaves.{holds_grown}
use Rattle.seal_core.proofs.laws.seals_outlast_growth.Goals as goal

pub returns : goal.returns
returns c = holds_grown
