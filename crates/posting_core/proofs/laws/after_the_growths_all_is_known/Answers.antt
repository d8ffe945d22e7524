use Rattle.std.specs.Prelude.{ℕ, Option, false, is_some, length}
use Rattle.std.specs.Option.{option_map_or}
use Rattle.std.proofs.Common.{ap}
use Rattle.nest_core.specs.Museum.{is_container}
use Rattle.posting_core.proofs.GrownSetups.{all_things, all_places}
use Rattle.posting_core.proofs.laws.after_the_growths_all_is_known.Goals as goal

pub returns-clause-things : goal.returns-clause-things
returns-clause-things c = λ S P x h. ap is_some (all_things S (length P) x h)

pub returns-clause-places : goal.returns-clause-places
returns-clause-places c = λ S P p h. ap is_some (all_places S (length P) p h)

pub returns-clause-containers : goal.returns-clause-containers
returns-clause-containers c = λ S P x h.
    ap (λ (o : Option ℕ). option_map_or (is_container S) o false) (all_things S (length P) x h)
