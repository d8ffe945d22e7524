-- Defines the printed names of refusals.
use Rattle.std.specs.Prelude.{ℕ, List, codes}
use Rattle.station_core.specs.declared.Refusal.{Refusal}
use Rattle.station_core.specs.declared.Refusal.TheVariants.{UnknownStation, BadNumber, Double}
use Rattle.station_core.specs.declared.Refusal.TheVariants.{SignedOff, TooEarly}

abbrev pub refusal_name : Refusal → List ℕ
refusal_name UnknownStation = codes "UnknownStation"
refusal_name BadNumber = codes "BadNumber"
refusal_name Double = codes "Double"
refusal_name SignedOff = codes "SignedOff"
refusal_name TooEarly = codes "TooEarly"
