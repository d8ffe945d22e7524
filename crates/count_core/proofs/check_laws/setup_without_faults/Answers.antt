use Rattle.count_core.proofs.SetupLaws.{setup_is}
use Rattle.count_core.proofs.check_laws.setup_without_faults.Goals as goal

pub returns : goal.returns
returns c = setup_is
