use Rattle.posting_core.proofs.Onwards.{closed_stays}
use Rattle.posting_core.proofs.laws.closed_loans_stay_closed.Goals as goal

pub returns : goal.returns
returns c = λ B L lawful loan closed. closed_stays B L lawful loan closed
