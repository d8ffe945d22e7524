-- The texts about a setup and its growth, computed on worked rows: a shelf, an object and a station
-- are new, and another object goes to the new shelf.
use Rattle.std.specs.Prelude.{◌≡◌, ◌++◌, ◌∷◌, [], None, Some, codes, false, refl, true}
use Rattle.std.specs.Fmt.{digits}
use Rattle.nest_core.specs.Museum.{Museum}
use Rattle.reports.specs.GrowthTexts.{counts_text, former_normal, growth_text}
use Rattle.reports.specs.GrowthTexts.{has_changes}
use Rattle.reports.specs.SetupFiles.{setup_file}

abbrev pub before : Museum
before = record {
  stations = codes "GAL" ∷ [];
  places = (codes "S1", true) ∷ (codes "MUSEUM-X", false) ∷ [];
  things = (codes "C1", None) ∷ (codes "2001.4.1", Some 0) ∷ [];
  growths = record { after = 1; listed = record { places = 1; things = 2 } } ∷ [];
}

abbrev pub after : Museum
after = record {
  stations = codes "GAL" ∷ codes "NORTH" ∷ [];
  places = (codes "S1", true) ∷ (codes "MUSEUM-X", false) ∷ (codes "S3", true) ∷ [];
  things = (codes "C1", None) ∷ (codes "2001.4.1", Some 2) ∷ (codes "2024.9.1", Some 2)
      ∷ (codes "C2", None) ∷ [];
  growths = record { after = 1; listed = record { places = 1; things = 2 } } ∷ [];
}

-- The growth after entry 1 has no row in the setup file.
file : setup_file before
    ≡ codes "station,GAL\nplace,S1,inside\nplace,MUSEUM-X,elsewhere\nbox,C1\nown,2001.4.1,S1\n"
file = refl

growth : growth_text before after 80000
    ≡ codes "+ station,NORTH\n+ place,S3,inside\n+ own,2024.9.1,S3\n+ box,C2\n"
    ++ codes "~ own,2001.4.1,S3  (was S1)\n"
    ++ codes "grown after entry 80000: 1 place, 2 things, 1 station, 1 normal location\n"
unfolding digits
growth = refl

nothing : growth_text before before 80000 ≡ codes "nothing to add\n"
nothing = refl

changed : has_changes before after ≡ true
changed = refl

unchanged : has_changes before before ≡ false
unchanged = refl

-- A count of 0 is left out.
some : counts_text (record { places = 2; things = 14; stations = 0; normal_locations = 3 })
    ≡ codes "2 places, 14 things, 3 normal locations"
unfolding digits
some = refl

no_former : former_normal before None ≡ codes "(had none)"
no_former = refl
