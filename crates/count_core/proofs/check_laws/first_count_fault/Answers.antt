use Rattle.count_core.proofs.CountTexts.{first_is}
use Rattle.count_core.proofs.check_laws.first_count_fault.Goals as goal

pub returns : goal.returns
returns c = first_is
