use Rattle.desk_core.proofs.LogLemmas.{log_join}
use Rattle.desk_core.proofs.laws.logs_are_appended.Goals as goal

pub returns : goal.returns
returns c S s A B = log_join S s A B
