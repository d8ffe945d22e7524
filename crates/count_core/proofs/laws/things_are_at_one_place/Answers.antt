use Rattle.count_core.proofs.ReportLaws.{in_own_place, in_one_place}
use Rattle.count_core.proofs.laws.things_are_at_one_place.Goals as goal

pub returns-clause-somewhere : goal.returns-clause-somewhere
returns-clause-somewhere c = in_own_place

pub returns-clause-once : goal.returns-clause-once
returns-clause-once c = in_one_place
