use Rattle.count_core.proofs.SetupLaws.{first_is}
use Rattle.count_core.proofs.check_laws.first_setup_fault.Goals as goal

pub returns : goal.returns
returns c = first_is
