use Rattle.table_core.proofs.RowMessages.{in_order}
use Rattle.table_core.proofs.laws.numbers_follow_each_other.Goals as goal

pub returns : goal.returns
returns c = in_order
