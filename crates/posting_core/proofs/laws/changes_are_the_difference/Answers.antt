use Rattle.posting_core.proofs.Differences.{lines_differ, stages_told}
use Rattle.posting_core.proofs.SpotsAfter.{spots_added}
use Rattle.posting_core.proofs.laws.changes_are_the_difference.Goals as goal

pub returns-clause-spots : goal.returns-clause-spots
returns-clause-spots c = λ B e lawful x less. spots_added B e lawful x less

pub returns-clause-lines : goal.returns-clause-lines
returns-clause-lines c = λ B e lawful loan o. lines_differ B e lawful loan o

pub returns-clause-stages : goal.returns-clause-stages
returns-clause-stages c = λ B e lawful. stages_told B e lawful
