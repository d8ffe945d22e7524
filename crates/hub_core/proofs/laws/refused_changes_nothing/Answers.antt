use Rattle.hub_core.proofs.LawLemmas.{unchanged}
use Rattle.hub_core.proofs.laws.refused_changes_nothing.Goals as goal

pub returns : goal.returns
returns c S depth O A r why h = unchanged S depth O A r why h
