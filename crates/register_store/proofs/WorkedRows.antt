-- The rows of a store computed on worked lists, and why wrong ones are rejected.
use Rattle.std.specs.Prelude.{ℕ, zero, suc, pos, negsuc, nat_abs, ◌-◌, ◌^◌, ◌≡◌, ◌≤◌, ◌<◌, ◌||◌}
use Rattle.std.specs.Prelude.{not, Bool, true, false, List, [], ◌∷◌, map, reverse, get_or, Some}
use Rattle.std.specs.Prelude.{None, slice_index, refl, codes, Err}
use Rattle.std.proofs.Common.{arith, sym, ap, subst, ◌∙◌}
use Rattle.std.specs.Str.{is_utf8, chars, bytes_eq}
use Rattle.std.proofs.Math.Utf8.{encode}
use Rattle.std.proofs.lemmas.List.Elements.{All-from_recursion}
use Rattle.std.specs.List.Sorted.{IsPermutation, IsSortedByKey}
use Rattle.std.specs.Ordering.{int_cmp, is_lt}
use Rattle.std.proofs.lemmas.List.Sorted.{IsPermutation-refl, IsPermutation-reverse}
use Rattle.std.proofs.lemmas.List.Sorted.{IsPermutation-append_comm, IsPermutation-map}
use Rattle.std.proofs.lemmas.List.Sorted.{length_permutation}
use Rattle.sqlite_trees.proofs.ListLemmas.{all-permutation}
use Rattle.sqlite_keyed.proofs.ListLemmas.{IsPermutation-filter}
use Rattle.jiff_core.specs.Calendar.{days_from_civil, day_count, days_of_years, days_of_months}
use Rattle.json.specs.Json.{value}
use Rattle.json.specs.Lex.{punctuate, lex}
use Rattle.json.specs.Text.{content}
use Rattle.json.specs.Print.{escape_byte}
use Rattle.nest_core.specs.Museum.{Museum}
use Rattle.posting_core.specs.declared.message.Message.{Message}
use Rattle.posting_core.specs.declared.message.Message.TheVariants.{Move}
use Rattle.posting_core.specs.declared.verdict.Verdict.{Verdict}
use Rattle.posting_core.specs.declared.verdict.Verdict.TheVariants.{Applied, ElsewherePlace}
use Rattle.posting_core.specs.declared.entry.Changes.{Changes}
use Rattle.posting_core.specs.declared.entry.Entry.{Entry}
use Rattle.posting_core.specs.declared.entry.NewSpot.{NewSpot}
use Rattle.register_store.specs.declared.store_fault.StoreFault.TheVariants.{NoMemory, Store}
use Rattle.register_store.specs.declared.store_fault.StoreFault.TheVariants.{OtherSetup, Damaged}
use Rattle.register_store.specs.declared.store_fault.StoreFault.TheVariants.{OtherVersion}
use Rattle.register_store.specs.StoredRows.{SetupRow, MetaRow, PostingRow, Content, AreSame}
use Rattle.register_store.specs.StoredRows.{rows_of_setup, rows_of_meta, is_depth, IsPostingRow}
use Rattle.register_store.specs.StoredRows.{written, all_written, spots_by_thing, HasList}
use Rattle.register_store.specs.StoredRows.{IsStoreOf, spot_row, with_posted}
use Rattle.register_store.specs.Registers.{CountsRefusal, bound_to, IsBindFault, IsOfStation}
use Rattle.register_store.specs.Registers.{IsWrongRow, IsListFault}
use Rattle.posting_core.specs.VerdictNames.{verdict_number}
use Rattle.register_store.proofs.OneList.{all_verdicts, of_number}
use Rattle.register_store.proofs.WorkedTexts.{may, may-text, first_move, first_text, first_run-text}
use Rattle.register_store.proofs.WorkedTexts.{ann, spaced_text, begins}

-- two stations, three places of the museum's own and two partners' places, two crates, three own
-- objects and a borrowed one
abbrev pub museum : Museum
museum = record {
  stations = codes "PACK" ∷ codes "GAL" ∷ [];
  places = (codes "S1", true) ∷ (codes "S1-A", true) ∷ (codes "S2", true)
      ∷ (codes "MUSEUM-X", false) ∷ (codes "LENDER-Y", false) ∷ [];
  things = (codes "C1", None) ∷ (codes "C2", None) ∷ (codes "2001.4.1", Some 1)
      ∷ (codes "2001.4.2", Some 1) ∷ (codes "2001.4.3", Some 1) ∷ (codes "L1999.7", None) ∷ [];
  growths = [];
}

-- numbers in it
abbrev pub pack : ℕ
pack = 0

abbrev gal : ℕ
gal = 1

abbrev s1 : ℕ
s1 = 0

abbrev s1_a : ℕ
s1_a = 1

abbrev s2 : ℕ
s2 = 2

abbrev pub object_1 : ℕ
object_1 = 2

abbrev pub object_2 : ℕ
object_2 = 3

-- setup_row_text: the setup's rows with their numbers, last first

abbrev row : ℕ → List ℕ → SetupRow
row id text = record { id = pos id; text = text }

abbrev setup_down : List SetupRow
setup_down =
    row 13 (codes "lent,L1999.7")
    ∷ row 12 (codes "own,2001.4.3,S1-A")
    ∷ row 11 (codes "own,2001.4.2,S1-A")
    ∷ row 10 (codes "own,2001.4.1,S1-A")
    ∷ row 9 (codes "box,C2")
    ∷ row 8 (codes "box,C1")
    ∷ row 7 (codes "place,LENDER-Y,elsewhere")
    ∷ row 6 (codes "place,MUSEUM-X,elsewhere")
    ∷ row 5 (codes "place,S2,inside")
    ∷ row 4 (codes "place,S1-A,inside")
    ∷ row 3 (codes "place,S1,inside")
    ∷ row 2 (codes "station,GAL")
    ∷ row 1 (codes "station,PACK")
    ∷ []

setup_row_text : rows_of_setup museum ≡ setup_down
setup_row_text = refl

abbrev meta : ℕ → ℕ → List MetaRow
meta version depth = record { name = codes "version"; val = pos version }
    ∷ record { name = codes "depth"; val = pos depth } ∷ []

depth_twelve : rows_of_meta 12 ≡ meta 2 12
depth_twelve = refl

depths : map is_depth (0 ∷ 8 ∷ 9 ∷ 12 ∷ []) ≡ false ∷ true ∷ false ∷ true ∷ []
depths = refl

-- held_then_posted: three entries of GAL, and their rows

abbrev pub entry : ℕ → ℕ → Message → Verdict → Entry
entry station n m v = record { station = station; n = n; message = m; verdict = v }

abbrev spot : ℕ → ℕ → ℕ → ℕ → NewSpot
spot thing k number place =
    record { thing = thing; k = k; spot = record { entry = number; place = place; day = may } }

abbrev entry_1 : Entry
entry_1 = entry gal 1 first_move Applied

abbrev entry_2 : Entry
entry_2 = entry gal 2 (Move may (codes "2001.4.2") (codes "S2")) Applied

abbrev entry_3 : Entry
entry_3 = entry gal 3 (Move may (codes "2001.4.1") (codes "S1-A")) Applied

abbrev held_then_posted : List Entry
held_then_posted = entry_3 ∷ entry_2 ∷ entry_1 ∷ []

abbrev spots_down : List NewSpot
spots_down = spot object_1 2 3 s1_a ∷ spot object_2 1 2 s2 ∷ spot object_1 1 1 s1 ∷ []

abbrev things_in_order : List NewSpot
things_in_order = spot object_1 1 1 s1 ∷ spot object_1 2 3 s1_a ∷ spot object_2 1 2 s2 ∷ []

held_then_posted-spots : all_written museum held_then_posted ≡ spots_down
held_then_posted-spots = refl

held_then_posted-by_thing : spots_by_thing museum held_then_posted ≡ things_in_order
held_then_posted-by_thing = refl

-- no spot is written by a refused entry, a Move to the thing's own place, or a sign-off
more-spots : all_written museum
    (entry gal 5 ann Applied ∷ entry gal 4 (Move may (codes "2001.4.1") (codes "S1-A")) Applied
    ∷ entry pack 1 (Move may (codes "2001.4.1") (codes "MUSEUM-X")) ElsewherePlace
    ∷ held_then_posted) ≡ spots_down
more-spots = refl

-- the rows that one more entry writes: a spot with the next number in its thing's list
next-written : written museum held_then_posted
    (entry pack 1 (Move may (codes "2001.4.2") (codes "S1")) Applied) ≡ spot object_2 2 4 s1 ∷ []
next-written = refl

-- posted to a new store, one after another

abbrev posting : ℕ → ℕ → ℕ → List ℕ → ℕ → PostingRow
posting id station n body verdict =
    record { id = pos id; station = pos station; n = pos n; body = body; verdict = pos verdict }

abbrev row_1 : PostingRow
row_1 = posting 1 gal 1 first_text 0

abbrev row_2 : PostingRow
row_2 = posting 2 gal 2
    (codes "{\"day\":\"2024-05-01\",\"kind\":\"move\",\"place\":\"S2\",\"thing\":\"2001.4.2\"}") 0

abbrev row_3 : PostingRow
row_3 = posting 3 gal 3
    (codes "{\"day\":\"2024-05-01\",\"kind\":\"move\",\"place\":\"S1-A\",\"thing\":\"2001.4.1\"}") 0

abbrev new : Content
new = record { setup = []; meta = []; postings = []; spots = []; lines = []; terms = [] }

abbrev bound : Content
bound = record {
  setup = setup_down;
  meta = meta 2 12;
  postings = [];
  spots = [];
  lines = [];
  terms = [];
}

new-bound : bound_to museum new ≡ bound
new-bound = refl

-- the rows of the three entries, last first
abbrev posted : Content
posted = record bound { postings = row_3 ∷ row_2 ∷ row_1 ∷ []; spots = map spot_row spots_down }

-- the changes of an applied entry about no loan
abbrev pub moving : ℕ → List NewSpot → Changes
moving number spots = record {
  entry = number;
  verdict = Applied;
  put = None;
  carried = [];
  spots = spots;
  loan = None;
  lines = [];
}

three-posted :
    with_posted row_3 entry_3 (moving 3 (spot object_1 2 3 s1_a ∷ []))
    (with_posted row_2 entry_2 (moving 2 (spot object_2 1 2 s2 ∷ []))
    (with_posted row_1 entry_1 (moving 1 (spot object_1 1 1 s1 ∷ [])) (bound_to museum new)))
    ≡ posted
three-posted = refl

-- an old store stays as it is, whatever it is bound to
old-bound :
    bound_to (record { stations = []; places = []; things = []; growths = [] }) posted ≡ posted
old-bound = refl

-- these are the stored rows of the list, in the order of tables too

abbrev in_tables : Content
in_tables = record {
  setup = reverse setup_down;
  meta = reverse (meta 2 12);
  postings = row_1 ∷ row_2 ∷ row_3 ∷ [];
  spots = map spot_row things_in_order;
  lines = [];
  terms = [];
}

first_kept : IsPostingRow 1 entry_1 row_1
unfolding is_utf8 chars encode value punctuate lex content escape_byte days_from_civil day_count
    days_of_years days_of_months
first_kept = record {
  id = refl;
  station = refl;
  n = refl;
  body = first_run-text;
  reads_back = refl;
  verdict = refl;
}

second_kept : IsPostingRow 2 entry_2 row_2
unfolding is_utf8 chars encode value punctuate lex content escape_byte days_from_civil day_count
    days_of_years days_of_months
second_kept = record {
  id = refl;
  station = refl;
  n = refl;
  body = rw may-text refl;
  reads_back = refl;
  verdict = refl;
}

third_kept : IsPostingRow 3 entry_3 row_3
unfolding is_utf8 chars encode value punctuate lex content escape_byte days_from_civil day_count
    days_of_years days_of_months
third_kept = record {
  id = refl;
  station = refl;
  n = refl;
  body = rw may-text refl;
  reads_back = refl;
  verdict = refl;
}

held_then_posted-listed : HasList held_then_posted in_tables
held_then_posted-listed = record {
  rows = row_3 ∷ row_2 ∷ row_1 ∷ [];
  each = (third_kept, (second_kept, (first_kept, tt)));
  all =
      IsPermutation-reverse (row_3 ∷ row_2 ∷ row_1 ∷ []);
}

held_then_posted-stored : IsStoreOf museum 12 held_then_posted in_tables
held_then_posted-stored = record {
  bound = record {
    setup = IsPermutation-reverse setup_down;
    meta = IsPermutation-reverse (meta 2 12);
    limit = refl;
  };
  list = held_then_posted-listed;
  rows = record {
    spots = IsPermutation-map spot_row _ _
        (IsPermutation-append_comm (spot object_1 2 3 s1_a ∷ spot object_2 1 2 s2 ∷ [])
        (spot object_1 1 1 s1 ∷ []));
    lines = IsPermutation-refl [];
    terms = IsPermutation-refl [];
  };
}

held_then_posted-same : AreSame posted in_tables
held_then_posted-same = record {
  setup = IsPermutation-reverse setup_down;
  meta = IsPermutation-reverse (meta 2 12);
  postings = IsPermutation-reverse (row_3 ∷ row_2 ∷ row_1 ∷ []);
  spots = held_then_posted-stored.rows.spots;
  lines = IsPermutation-refl [];
  terms = IsPermutation-refl [];
}

-- why a store can't be bound

abbrev saying : List MetaRow → Content
saying rows = record in_tables { meta = rows }

version_nine : IsBindFault museum (saying (meta 9 12)) OtherVersion
version_nine = refl

-- the previous version isn't read either
version_one : IsBindFault museum (saying (meta 1 8)) OtherVersion
version_one = refl

-- in each row, any depth limit is one that a store can have
abbrev has_depth : MetaRow → Bool
has_depth row = not (bytes_eq row.name (codes "depth")) || is_depth (nat_abs row.val)

odd_depth : IsBindFault museum (saying (meta 2 9)) (Damaged 0)
odd_depth = (refl, refl, refl, λ whole. no_nine whole.0 whole.1 whole.2)
  where
    no_nine : (depth : ℕ) → is_depth depth ≡ true
        → IsPermutation (rows_of_meta depth) (meta 2 9) → ⊥
    no_nine depth allowed same = let all =
        all-permutation (λ row. has_depth row ≡ true) (rows_of_meta depth) (meta 2 9) same
        (refl, (allowed, tt)) in let nine : false ≡ true = all.1.0 in cc

no_depth : IsBindFault museum (saying (record { name = codes "version"; val = pos 2 } ∷ []))
    (Damaged 0)
no_depth =
    (refl, refl, refl, λ whole. let one = length_permutation _ _ whole.2 in absurd (omega arith))

-- one word besides the two
one_word_more : IsBindFault museum
    (saying (record { name = codes "term"; val = pos 1 } ∷ meta 2 12)) (Damaged 0)
one_word_more =
    (refl, refl, refl, λ whole. let one = length_permutation _ _ whole.2 in absurd (omega arith))

-- a setup with as many rows, with another third row

abbrev is_other_place : SetupRow → Bool
is_other_place row = bytes_eq row.text (codes "place,S3,inside")

abbrev other_setup : List SetupRow
other_setup =
    row 1 (codes "station,PACK")
    ∷ row 2 (codes "station,GAL")
    ∷ row 3 (codes "place,S3,inside")
    ∷ row 4 (codes "place,S1-A,inside")
    ∷ row 5 (codes "place,S2,inside")
    ∷ row 6 (codes "place,MUSEUM-X,elsewhere")
    ∷ row 7 (codes "place,LENDER-Y,elsewhere")
    ∷ row 8 (codes "box,C1")
    ∷ row 9 (codes "box,C2")
    ∷ row 10 (codes "own,2001.4.1,S1-A")
    ∷ row 11 (codes "own,2001.4.2,S1-A")
    ∷ row 12 (codes "own,2001.4.3,S1-A")
    ∷ row 13 (codes "lent,L1999.7")
    ∷ []

other_place : IsBindFault museum (record in_tables { setup = other_setup }) OtherSetup
other_place = (
  (12, refl, IsPermutation-reverse (meta 2 12)),
  λ same. let one = length_permutation _ _
      (IsPermutation-filter is_other_place (rows_of_setup museum) other_setup same) in
      absurd (omega arith),
)

-- why its entries can't be listed

abbrev holding : List PostingRow → Content
holding rows = record in_tables { postings = rows }

-- two rows in the order of their numbers
rising : (a b : PostingRow) → is_lt (int_cmp b.id a.id) ≡ false
    → IsSortedByKey (λ (r : PostingRow). r.id) int_cmp (a ∷ b ∷ [])
rising a b most zero d low high = most
rising a b most (suc k) d low high = absurd (omega arith)

of_gal : (n : ℕ) (m : Message) (v : Verdict) → 1 ≤ n → n ≤ 999999 → IsOfStation 2 (entry gal n m v)
of_gal n m v some few = record { known = omega arith; first = some; few = few }

second_deleted : IsListFault 2 (holding (row_3 ∷ row_1 ∷ [])) (Damaged 2)
second_deleted = record {
  rows = row_1 ∷ row_3 ∷ [];
  all = IsPermutation-reverse (row_1 ∷ row_3 ∷ []);
  order = rising row_1 row_3 refl;
  first = record {
    before = row_1 ∷ [];
    row = row_3;
    after = [];
    split = refl;
    number = refl;
    entries = entry_1 ∷ [];
    right = (first_kept, tt);
    stationed = All-from_recursion (IsOfStation 2) (entry_1 ∷ [])
        (of_gal 1 first_move Applied (omega arith) (omega arith), tt);
    wrong = λ e kept known. let id : 3 ≡ 2 = ap nat_abs kept.id in absurd (omega arith);
  };
}

-- a row that is no entry of two stations

differ : (a b : ℕ) → a < b → a ≡ b → ⊥
differ a b less same = omega arith

no_such_station : IsWrongRow 2 1 (posting 1 5 1 first_text 0)
no_such_station e kept known = let station : 5 ≡ e.station = ap nat_abs kept.station in let below =
    known.known in absurd (omega arith)

number_zero : IsWrongRow 2 1 (posting 1 gal 0 first_text 0)
number_zero e kept known = let n : 0 ≡ e.n = ap nat_abs kept.n in let some = known.first in
    absurd (omega arith)

number_too_high : IsWrongRow 2 1 (posting 1 gal 1000000 first_text 0)
number_too_high e kept known = let n : 1000000 ≡ e.n = ap nat_abs kept.n in let few = known.few in
    absurd (omega arith)

no_such_verdict : IsWrongRow 2 1 (posting 1 gal 1 first_text 26)
no_such_verdict e kept known =
    let number : 26 ≡ verdict_number e.verdict = ap nat_abs kept.verdict in
    let applied : Applied ≡ e.verdict =
    subst (λ n. get_or all_verdicts n Applied ≡ e.verdict) (sym number) (of_number e.verdict) in
    differ 0 26 (omega arith) (ap verdict_number applied ∙ sym number)

-- a negative cell is no entry's, whatever the other cells are
negative_number : IsWrongRow 2 1 (record row_1 { n = negsuc 0 })
negative_number e kept known = let n : negsuc 0 ≡ pos e.n = kept.n in absurd (cc)

-- a body that is read as the message, but isn't its one text
another_text : IsWrongRow 2 1 (posting 1 gal 1 spaced_text 0)
another_text e kept known = differ 32 34 (omega arith)
    (ap (λ l. slice_index l 1) (begins e.message spaced_text kept.body))

-- the count of Store faults, up to its limit

refused_again : CountsRefusal {T = ℕ} 4 5 (Err Store)
refused_again = refl

refused_last : CountsRefusal {T = ℕ} (2 ^ 64 - 1) (2 ^ 64 - 1) (Err Store)
refused_last = refl

no_memory_counts_not : CountsRefusal {T = ℕ} 4 4 (Err NoMemory)
no_memory_counts_not = refl
