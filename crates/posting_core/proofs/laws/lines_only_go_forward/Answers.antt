use Rattle.posting_core.proofs.Onwards.{lines_forward}
use Rattle.posting_core.proofs.laws.lines_only_go_forward.Goals as goal

pub returns : goal.returns
returns c = λ B L lawful loan o. lines_forward B L lawful loan o
