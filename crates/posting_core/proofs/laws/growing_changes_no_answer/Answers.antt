use Rattle.std.specs.Prelude.{length}
use Rattle.std.proofs.Common.{arith}
use Rattle.nest_core.specs.SetupGrowing.{grown}
use Rattle.posting_core.proofs.GrownAnswers.{lawful_grown, answers_grown}
use Rattle.posting_core.proofs.GrownSetups.{grew}
use Rattle.posting_core.proofs.laws.growing_changes_no_answer.Goals as goal

pub returns-clause-lawful : goal.returns-clause-lawful
returns-clause-lawful c = λ S T depth P kept extends lawful.
    lawful_grown (length P) S (grown (length P) S T) depth (grew (length P) S T extends) kept P
    (omega arith) lawful

pub returns-clause-answers : goal.returns-clause-answers
returns-clause-answers c = λ S T depth P kept extends lawful.
    answers_grown (length P) S (grown (length P) S T) depth (grew (length P) S T extends) kept P
    lawful
