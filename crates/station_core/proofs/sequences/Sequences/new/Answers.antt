use Rattle.std.proofs.Common.{arith}
use Rattle.std.proofs.lemmas.Grind.{common_steps}
use Rattle.station_core.proofs.StationLemmas.{all_opened}
use Rattle.station_core.proofs.sequences.Sequences.new.Goals as goal

pub returns-clause-opened : goal.returns-clause-opened
returns-clause-opened g c = grind (arith, common_steps)

pub returns-clause-taken : goal.returns-clause-taken
returns-clause-taken g c = λ signs taken every. rw (returns-clause-opened g c)
    (all_opened signs taken _ every)
