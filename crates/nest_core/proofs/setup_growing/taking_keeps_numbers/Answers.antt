use Rattle.nest_core.specs.SetupGrowing.{untaken}
use Rattle.nest_core.proofs.Growing.{all_extends}
use Rattle.nest_core.proofs.setup_growing.taking_keeps_numbers.Goals as goal

pub returns : goal.returns
returns c = λ S rows. all_extends (untaken S) rows
