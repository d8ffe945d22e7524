use Rattle.posting_core.proofs.Refused.{all_unchanged}
use Rattle.posting_core.proofs.laws.all_refused_change_no_answer.Goals as goal

pub returns : goal.returns
returns c = λ B L refused. all_unchanged B L refused
