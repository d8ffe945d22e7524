use Rattle.hub_core.specs.Points.{posted}
use Rattle.std.proofs.Common.{◌++◌, ◌∷◌, []}
use Rattle.hub_core.proofs.RefusedLemmas.{alike_after, same_whereabouts}
use Rattle.hub_core.proofs.laws.refused_verdicts_change_no_answer.Goals as goal

pub returns-clause-ledger : goal.returns-clause-ledger
returns-clause-ledger c = λ S depth O A r L is refused. alike_after S depth
    (posted S depth O (A ++ r ∷ [])) (posted S depth O A) L is refused

pub returns-clause-asked : goal.returns-clause-asked
returns-clause-asked c = λ S depth O A r L code is refused. same_whereabouts S depth
    (posted S depth O (A ++ r ∷ [])) (posted S depth O A) L code is refused
