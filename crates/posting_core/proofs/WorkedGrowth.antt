-- A setup that grows, computed on worked rows.
use Rattle.std.specs.Prelude.{◌≡◌, true, List, [], ◌∷◌, ◌++◌, Some, None, length, map, refl, codes}
use Rattle.nest_core.specs.Museum.{Museum}
use Rattle.nest_core.specs.SetupGrowing.{Extends, grown}
use Rattle.posting_core.specs.declared.verdict.Verdict.{Verdict}
use Rattle.posting_core.specs.declared.verdict.Verdict.TheVariants.{Applied, UnknownThing}
use Rattle.posting_core.specs.declared.verdict.Verdict.TheVariants.{UnknownPlace, UnknownContainer}
use Rattle.posting_core.specs.declared.verdict.Verdict.TheVariants.{ContainerNotHere}
use Rattle.posting_core.specs.declared.message.Message.TheVariants.{Pack}
use Rattle.posting_core.specs.declared.entry.Entry.{Entry}
use Rattle.posting_core.specs.Verdicts.{verdict}
use Rattle.posting_core.proofs.WorkedRows.{museum, moved, may, tour}

-- A place, an object and a crate are added, and 2001.4.1 gets another normal place.
abbrev larger : Museum
larger = record {
  stations = museum.stations;
  places = museum.places ++ (codes "S9", true) ∷ [];
  things = (codes "C1", None) ∷ (codes "C2", None) ∷ (codes "2001.4.1", Some 5)
      ∷ (codes "2001.4.2", Some 1) ∷ (codes "2001.4.3", Some 1) ∷ (codes "L1999.7", None)
      ∷ (codes "2009.1", Some 1) ∷ (codes "C9", None) ∷ [];
  growths = [];
}

larger_extends : Extends museum larger
larger_extends = record {
  more_stations = [];
  stations = refl;
  more_places = (codes "S9", true) ∷ [];
  places = refl;
  more_things = codes "2009.1" ∷ codes "C9" ∷ [];
  things = refl;
  growths = refl;
}

-- the setup grows after the eight entries of the tour
abbrev pub grown_museum : Museum
grown_museum = grown 8 museum larger

eight : length tour ≡ 8
eight = refl

growths : grown_museum.growths
    ≡ record { after = 8; listed = record { places = 5; things = 6 } } ∷ []
growths = refl

-- messages that name the new object, the new place and the new crate
abbrev asked : Museum → List Entry → List Verdict
asked S P = map (verdict S 8 P) (
    moved (codes "2009.1") (codes "S1")
    ∷ moved (codes "2001.4.1") (codes "S9")
    ∷ Pack may (codes "2001.4.1") (codes "C9")
    ∷ [])

before : asked museum [] ≡ UnknownThing ∷ UnknownPlace ∷ UnknownContainer ∷ []
before = refl

-- the growth doesn't change these verdicts
still : asked grown_museum [] ≡ asked museum []
still = refl

-- after the growth only the crate is refused, because it isn't in the museum yet
after : asked grown_museum tour ≡ Applied ∷ Applied ∷ ContainerNotHere ∷ []
after = refl
