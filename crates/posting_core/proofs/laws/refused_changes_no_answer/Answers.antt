use Rattle.posting_core.proofs.Refused.{unchanged}
use Rattle.posting_core.proofs.laws.refused_changes_no_answer.Goals as goal

pub returns : goal.returns
returns c = λ B e refused. unchanged B e refused
