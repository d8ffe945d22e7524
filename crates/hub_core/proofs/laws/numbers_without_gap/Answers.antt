use Rattle.hub_core.proofs.LawLemmas.{numbered}
use Rattle.hub_core.proofs.laws.numbers_without_gap.Goals as goal

pub returns : goal.returns
returns c S depth P s i r law at = numbered S depth P s i r law at
