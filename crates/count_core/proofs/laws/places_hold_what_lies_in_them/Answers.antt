use Rattle.count_core.proofs.ReportLaws.{in_outer}
use Rattle.count_core.proofs.laws.places_hold_what_lies_in_them.Goals as goal

pub returns : goal.returns
returns c = in_outer
