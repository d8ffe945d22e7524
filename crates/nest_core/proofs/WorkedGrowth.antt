-- The definitions of a growing setup computed on worked rows.
use Rattle.std.specs.Prelude.{◌≡◌, List, ℕ, [], ◌∷◌, true, false, None, Some, codes}
use Rattle.std.specs.Prelude.{refl}
use Rattle.std.specs.Fmt.{digits}
use Rattle.std.specs.Str.{chars, is_utf8}
use Rattle.csv.specs.Machine.{next_record}
use Rattle.csv.specs.Reading.{records_from, strip_bom}
use Rattle.nest_core.specs.Museum.{Museum, find_place_at, find_thing_at, listed_at}
use Rattle.nest_core.specs.SetupGrowing.{all_taken, file_faults, grown}
use Rattle.nest_core.specs.SetupTexts.{setup_rows}
use Rattle.nest_core.specs.declared.setup_fault.SetupFault.TheVariants.{BadKind, NotCsv, Repeated}
use Rattle.nest_core.specs.declared.setup_fault.SetupFault.TheVariants.{UnknownNormal}
use Rattle.nest_core.specs.declared.grow_fault.GrowFault.TheVariants.{OtherSide, Setup}

abbrev museum : Museum
museum = record {
  stations = codes "GAL" ∷ [];
  places = (codes "S1", true) ∷ (codes "MUSEUM-X", false) ∷ [];
  things = (codes "C1", None) ∷ (codes "2001.4.1", Some 0) ∷ [];
  growths = [];
}

-- Two rows list what is listed, one of them with another normal place.
abbrev file : List ℕ
file = codes "place,S1,inside\nplace,S3,inside\nown,2024.9.1,S3\nown,2001.4.1,S3\n"

abbrev more : Museum
more = record {
  stations = codes "GAL" ∷ [];
  places = (codes "S1", true) ∷ (codes "MUSEUM-X", false) ∷ (codes "S3", true) ∷ [];
  things = (codes "C1", None) ∷ (codes "2001.4.1", Some 2) ∷ (codes "2024.9.1", Some 2) ∷ [];
  growths = [];
}

no_fault : (all_taken museum file).faults ≡ []
unfolding next_record records_from strip_bom
no_fault = refl

takes_the_file : (all_taken museum file).setup ≡ more
unfolding next_record records_from strip_bom
takes_the_file = refl

-- The normal place of row 1 isn't listed yet, so row 1 isn't taken, and row 4 repeats row 3 alone.
abbrev faulty : List ℕ
faulty = codes "own,2024.9.1,S3\nplace,S3,inside\nown,2024.9.1,S3\nown,2024.9.1,S1\n"

two_faults : (all_taken museum faulty).faults
    ≡ Setup (UnknownNormal 1) ∷ Setup (Repeated 4) ∷ []
unfolding next_record records_from strip_bom
two_faults = refl

takes_the_good_rows : (all_taken museum faulty).setup
    ≡ record {
      stations = codes "GAL" ∷ [];
      places = (codes "S1", true) ∷ (codes "MUSEUM-X", false) ∷ (codes "S3", true) ∷ [];
      things = (codes "C1", None) ∷ (codes "2001.4.1", Some 0) ∷ (codes "2024.9.1", Some 2) ∷ [];
      growths = [];
    }
unfolding next_record records_from strip_bom
takes_the_good_rows = refl

-- After five entries the setup grows: the sixth is the first that knows what is new.
abbrev later : Museum
later = grown 5 museum more

rows : setup_rows later ≡ codes "station,GAL" ∷ codes "place,S1,inside"
    ∷ codes "place,MUSEUM-X,elsewhere" ∷ codes "place,S3,inside" ∷ codes "box,C1"
    ∷ codes "own,2001.4.1,S3" ∷ codes "own,2024.9.1,S3" ∷ codes "grew,5,2,2" ∷ []
unfolding digits
rows = refl

listed_before : listed_at later 4 ≡ record { places = 2; things = 2 }
listed_before = refl

listed_after : listed_at later 5 ≡ record { places = 3; things = 3 }
listed_after = refl

new_thing_before : find_thing_at later 4 (codes "2024.9.1") ≡ None
new_thing_before = refl

new_thing_after : find_thing_at later 5 (codes "2024.9.1") ≡ Some 2
new_thing_after = refl

old_thing_before : find_thing_at later 0 (codes "2001.4.1") ≡ Some 1
old_thing_before = refl

new_place_before : find_place_at later 4 (codes "S3") ≡ None
new_place_before = refl

-- A listed station is kept, once.
repeated_station : (all_taken museum (codes "station,GAL\n\nstation,GAL\n")).faults
    ≡ Setup (Repeated 2) ∷ []
unfolding next_record records_from strip_bom
repeated_station = refl

other_side : (all_taken museum (codes "place,S3,inside\nplace,S1,elsewhere\n")).faults
    ≡ OtherSide 2 ∷ []
unfolding next_record records_from strip_bom
other_side = refl

bad_kind : (all_taken museum (codes "grew,5,2,2\n")).faults ≡ Setup (BadKind 1) ∷ []
unfolding next_record records_from strip_bom
bad_kind = refl

not_text : file_faults museum (255 ∷ []) ≡ Setup NotCsv ∷ []
unfolding is_utf8 chars
not_text = refl
