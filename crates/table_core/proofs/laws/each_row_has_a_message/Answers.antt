use Rattle.table_core.proofs.RowMessages.{each_row}
use Rattle.table_core.proofs.laws.each_row_has_a_message.Goals as goal

pub returns : goal.returns
returns c = each_row
