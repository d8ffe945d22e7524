use Rattle.reports.proofs.EntryLocations.{all_locations}
use Rattle.reports.proofs.sections.laws.locations_are_the_history.Goals as goal

pub returns : goal.returns
returns c = λ B x lawful less. all_locations B x lawful less
