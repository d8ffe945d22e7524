use Rattle.hub_core.proofs.LawLemmas.{double, resent}
use Rattle.hub_core.proofs.laws.resent_is_double.Goals as goal

pub returns : goal.returns
returns c S depth O A r known first few low =
    resent S depth O A r (double S depth O A r known first few low)
