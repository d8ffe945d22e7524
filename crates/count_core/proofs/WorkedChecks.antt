-- The definitions computed on worked files.
use Rattle.std.specs.Prelude.{ℕ, ◌≡◌, List, [], ◌∷◌, true, false, None, Some, codes, refl}
use Rattle.std.specs.Fmt.{digits}
use Rattle.std.specs.Str.{chars, is_utf8}
use Rattle.csv.specs.Machine.{next_record}
use Rattle.csv.specs.Reading.{records_from, strip_bom}
use Rattle.nest_core.specs.Museum.{Museum}
use Rattle.nest_core.specs.declared.setup_fault.SetupFault.TheVariants.{BadCode, BadFields}
use Rattle.nest_core.specs.declared.setup_fault.SetupFault.TheVariants.{NoStation}
use Rattle.nest_core.specs.declared.setup_fault.SetupFault.TheVariants.{NotCsv, Repeated}
use Rattle.nest_core.specs.declared.setup_fault.SetupFault.TheVariants.{UnknownNormal}
use Rattle.nest_core.specs.declared.grow_fault.GrowFault.TheVariants.{Setup}
use Rattle.count_core.specs.declared.count_fault.CountFault.TheVariants as count
use Rattle.count_core.specs.CountChecks.{count_faults, row_count}
use Rattle.count_core.specs.SetupChecks.{setup_faults}
use Rattle.count_core.specs.Summaries.{counts_summary, grouped, setup_summary}

-- Row 2 has no place's code, row 3 names that place, and row 5 lists the station again.
faulty : setup_faults
    (codes "station,desk\nplace,s 1,inside\nown,2001.1,S1\nbox,C1\nstation,desk\n")
    ≡ Setup (BadCode 2) ∷ Setup (UnknownNormal 3) ∷ Setup (Repeated 5) ∷ []
unfolding is_utf8 chars next_record records_from strip_bom lib.Utf8.encode
faulty = refl

-- A place that is listed again, with the other word or not, is listed twice.
other_word : setup_faults (codes "station,desk\nplace,S1,inside\nplace,S1,elsewhere\n")
    ≡ Setup (Repeated 3) ∷ []
unfolding is_utf8 chars next_record records_from strip_bom lib.Utf8.encode
other_word = refl

-- No row lists a station. With another fault this isn't a fault of its own.
no_station : setup_faults (codes "place,S1,inside\n") ≡ Setup NoStation ∷ []
unfolding is_utf8 chars next_record records_from strip_bom lib.Utf8.encode
no_station = refl

bad_station : setup_faults (codes "station\n") ≡ Setup (BadFields 1) ∷ []
unfolding is_utf8 chars next_record records_from strip_bom lib.Utf8.encode
bad_station = refl

no_text : setup_faults (255 ∷ []) ≡ Setup NotCsv ∷ []
unfolding is_utf8 chars
no_text = refl

right : setup_faults (codes "station,desk\nplace,S1,inside\nown,2001.1,S1\n") ≡ []
unfolding is_utf8 chars next_record records_from strip_bom lib.Utf8.encode
right = refl

abbrev museum : Museum
museum = record {
  stations = codes "GAL" ∷ codes "desk" ∷ [];
  places = (codes "S1", true) ∷ [];
  things = (codes "C1", None) ∷ (codes "2001.4.1", Some 0) ∷ (codes "LO0001.1", None) ∷ [];
  growths = [];
}

about_museum : setup_summary museum ≡ codes "ok: 2 stations, 1 place, 1 box, 2 objects\n"
unfolding digits
about_museum = refl

-- A comma is before each group of three digits, and not before the first digit.
small : grouped 999 ≡ codes "999"
unfolding digits
small = refl

thousands : grouped 80000 ≡ codes "80,000"
unfolding digits
thousands = refl

millions : grouped 100000000 ≡ codes "100,000,000"
unfolding digits
millions = refl

one_row : counts_summary 1 ≡ codes "ok: 1 row\n"
unfolding digits
one_row = refl

many_rows : counts_summary 1200 ≡ codes "ok: 1,200 rows\n"
unfolding digits
many_rows = refl

-- Row 1 has three fields, row 3 no thing's code; row 2 is skipped, and row 4 has no fault.
count_list : count_faults (codes "S1,2001.1,x\n,\nS1,vase\nS1,2001.1\n")
    ≡ count.BadFields 1 ∷ count.BadCode 3 ∷ []
unfolding is_utf8 chars next_record records_from strip_bom lib.Utf8.encode
count_list = refl

-- Rows with a fault are counted, and the skipped one isn't.
counted_rows : row_count (codes "S1,2001.1,x\n,\nS1,vase\nS1,2001.1\n") ≡ 3
unfolding is_utf8 chars next_record records_from strip_bom lib.Utf8.encode
counted_rows = refl

count_no_text : count_faults (255 ∷ []) ≡ count.NotCsv ∷ []
unfolding is_utf8 chars
count_no_text = refl
