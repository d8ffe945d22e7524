use Rattle.line_files.proofs.ReadLines.{same_faults}
use Rattle.line_files.proofs.laws.faults_need_no_setup.Goals as goal

pub returns : goal.returns
returns c = λ S T bytes. same_faults S T bytes
