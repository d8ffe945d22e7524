-- The first fault of a setup file, and its setup without faults, are those of the reader.
use Rattle.std.specs.Prelude.{ℕ, ◌≡◌, Bool, true, false, List, [], ◌∷◌, length, Option, Some, None}
use Rattle.std.specs.Prelude.{option_map, refl}
use Rattle.std.specs.Option.{option_or, option_to_list}
use Rattle.std.specs.Str.{is_utf8}
use Rattle.std.proofs.Common.{ap, sym, ◌∙◌}
use Rattle.nest_core.specs.Museum.{Museum, no_museum}
use Rattle.nest_core.specs.SetupRows.{first_fault, museum_of, rows_of, setup_fault, station_fault}
use Rattle.nest_core.specs.SetupGrowing.{Taking, all_taken, with_file}
use Rattle.nest_core.specs.declared.setup_fault.SetupFault.{SetupFault}
use Rattle.nest_core.specs.declared.setup_fault.SetupFault.TheVariants.{NotCsv}
use Rattle.nest_core.specs.declared.grow_fault.GrowFault.{GrowFault}
use Rattle.nest_core.specs.declared.grow_fault.GrowFault.TheVariants.{Setup}
use Rattle.count_core.specs.SetupChecks.{first_of, or_no_station, setup_faults}
use Rattle.count_core.proofs.FirstFaults.{first_all, lists_all, reached}

only_first : {A : Type 0} (o : Option A) → first_of (option_to_list o) ≡ o
only_first None = refl
only_first (Some x) = refl

first_kept : (S : Museum) (faults : List GrowFault) (f : GrowFault) → first_of faults ≡ Some f
    → first_of (or_no_station S faults) ≡ Some f
first_kept S [] f is = absurd (cc)
first_kept S (g ∷ faults) f is = is

listed_all : (bytes : List ℕ) → first_fault [] (rows_of bytes) ≡ None
    → all_taken no_museum bytes ≡ reached (museum_of (rows_of bytes)) (length (rows_of bytes))
listed_all bytes none = lists_all [] (rows_of bytes) none

in_text : (bytes : List ℕ) (o : Option SetupFault) → first_fault [] (rows_of bytes) ≡ o
    → first_of (or_no_station (all_taken no_museum bytes).setup (all_taken no_museum bytes).faults)
    ≡ option_map Setup (option_or o (station_fault (museum_of (rows_of bytes))))
in_text bytes None none =
    ap (λ (T : Taking). first_of (or_no_station T.setup T.faults)) (listed_all bytes none)
    ∙ only_first (option_map Setup (station_fault (museum_of (rows_of bytes))))
in_text bytes (Some f) some =
    first_kept (all_taken no_museum bytes).setup (all_taken no_museum bytes).faults (Setup f)
    (first_all [] (rows_of bytes) f some)

by_text : (bytes : List ℕ) (t : Bool) → is_utf8 bytes ≡ t
    → first_of (setup_faults bytes) ≡ option_map Setup (setup_fault bytes)
by_text bytes false none = rw none refl
by_text bytes true text = rw text (in_text bytes (first_fault [] (rows_of bytes)) refl)

pub first_is : (bytes : List ℕ)
    → first_of (setup_faults bytes) ≡ option_map Setup (setup_fault bytes)
first_is bytes = by_text bytes (is_utf8 bytes) refl

not_mapped : (o : Option SetupFault) → option_map Setup o ≡ None → o ≡ None
not_mapped None none = refl
not_mapped (Some f) none = absurd (cc)

-- without faults the reader has none

reader_none : (bytes : List ℕ) → setup_faults bytes ≡ [] → setup_fault bytes ≡ None
reader_none bytes none =
    not_mapped (setup_fault bytes) (sym (first_is bytes) ∙ ap first_of none)

first_none : {A : Type 0} (o q : Option A) → option_or o q ≡ None → o ≡ None
first_none None q none = refl
first_none (Some x) q none = absurd (cc)

same_setup : (bytes : List ℕ) (t : Bool) → is_utf8 bytes ≡ t → setup_fault bytes ≡ None
    → with_file no_museum bytes ≡ museum_of (rows_of bytes)
same_setup bytes false no_text none =
    absurd (let some : setup_fault bytes ≡ Some NotCsv = rw no_text refl in
    let never : Some NotCsv ≡ None = sym some ∙ none in cc)
same_setup bytes true text none =
    rw text (ap (λ (T : Taking). T.setup)
    (listed_all bytes (first_none (first_fault [] (rows_of bytes)) _ (rw text at none))))

pub setup_is : (bytes : List ℕ) → setup_faults bytes ≡ []
    → with_file no_museum bytes ≡ museum_of (rows_of bytes)
setup_is bytes none = same_setup bytes (is_utf8 bytes) refl (reader_none bytes none)
