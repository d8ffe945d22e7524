-- Defines all faults of a setup file.
use Rattle.std.specs.Prelude.{ℕ, List, [], ◌∷◌, Option, Some, None, option_map}
use Rattle.std.specs.Option.{option_to_list}
use Rattle.nest_core.specs.Museum.{Museum, no_museum}
use Rattle.nest_core.specs.SetupGrowing.{file_faults, with_file}
use Rattle.nest_core.specs.SetupRows.{station_fault}
use Rattle.nest_core.specs.declared.grow_fault.GrowFault.{GrowFault}
use Rattle.nest_core.specs.declared.grow_fault.GrowFault.TheVariants.{Setup}

abbrev pub first_of : {A : Type 0} → List A → Option A
first_of [] = None
first_of (x ∷ xs) = Some x

-- These faults, or NoStation if there are none and the setup has no station.
abbrev pub or_no_station : Museum → List GrowFault → List GrowFault
or_no_station S [] = option_to_list (option_map Setup (station_fault S))
or_no_station S (f ∷ fs) = f ∷ fs

-- All faults of a setup file: NotCsv if the bytes are not UTF-8, otherwise the first fault of each
-- row that has one; and NoStation if there is no other.
abbrev pub setup_faults : List ℕ → List GrowFault
setup_faults bytes = or_no_station (with_file no_museum bytes) (file_faults no_museum bytes)
