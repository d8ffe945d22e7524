use Rattle.posting_core.proofs.Onwards.{days_move_on}
use Rattle.posting_core.proofs.laws.last_days_only_move_on.Goals as goal

pub returns : goal.returns
returns c = λ B L lawful loan. days_move_on B L lawful loan
