use Rattle.table_core.proofs.Hiding.{hide_no_code}
use Rattle.table_core.proofs.laws.labels_hide_no_code.Goals as goal

pub returns : goal.returns
returns c = hide_no_code
