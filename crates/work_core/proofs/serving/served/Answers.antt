use Rattle.std.proofs.Common.{sym}
use Rattle.work_core.proofs.ServingLemmas.{stopped_at_first}
use Rattle.work_core.proofs.serving.served.Goals as goal

pub returns-in_default-clause-stops : goal.returns-in_default-clause-stops
returns-in_default-clause-stops g c =
    stopped_at_first _ _ _ _ (sym c.close.ensures.same)
