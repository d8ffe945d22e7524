use Rattle.hub_core.proofs.ReopenLemmas.{opens}
use Rattle.hub_core.proofs.laws.stored_list_opens.Goals as goal

pub returns : goal.returns
returns c S depth P k fault law grown store h = opens S depth P k fault law grown store h
