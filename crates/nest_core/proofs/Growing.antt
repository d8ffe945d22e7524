-- Facts about a setup that takes in the rows of a further file.
use Rattle.std.specs.Prelude.{ℕ, ◌+◌, ◌≡◌, ◌<◌, Bool, true, false}
use Rattle.std.specs.Prelude.{cond, not, nat_lt, List, [], ◌∷◌, ◌++◌, length, map, fold, Option}
use Rattle.std.specs.Prelude.{None, Some, is_none, is_some, ◌==◌, refl, suc, if◌then◌else◌}
use Rattle.std.specs.List.{position, position_or_len, list_all}
use Rattle.std.specs.Map.{lookup}
use Rattle.std.specs.Option.{option_map, option_map_or, option_and_then, option_or}
use Rattle.std.specs.Str.{bytes_eq, is_utf8}
use Rattle.std.proofs.Common.{arith, ap, sym, subst, ◌∙◌, append_assoc}
use Rattle.std.proofs.lemmas.Bool.{false≢true, and_parts}
use Rattle.std.proofs.lemmas.Bool.Decides.{nat_tests}
use Rattle.std.proofs.lemmas.List.{length-append, length-map, map-append, append-nil}
use Rattle.std.proofs.lemmas.Slice.Eq.{bytes_eq-Decides}
use Rattle.indexmap.specs.IndexMap.{insert_entry}
use Rattle.nest_core.specs.Museum.{Museum, IsMuseum, NeverFell, find_place}
use Rattle.nest_core.specs.Museum.{find_thing, thing_codes, is_thing_row}
use Rattle.nest_core.specs.SetupRows.{Fields, field_count, is_repeated, item_of, lacks_normal}
use Rattle.nest_core.specs.SetupRows.{is_full, rows_of}
use Rattle.nest_core.specs.SetupRows.{CanBeListed, listing_fault, own_fault, row_fault, with_listed}
use Rattle.nest_core.specs.declared.TheConstants.{MOST_GROWTHS}
use Rattle.nest_core.specs.SetupGrowing.{grown, is_other_side, taking_fault, rehomed, kept_with}
use Rattle.nest_core.specs.SetupGrowing.{Taking, all_taken, at_next, further_fault, taken_unless}
use Rattle.nest_core.specs.SetupGrowing.{untaken, with_taken, with_further, with_file, Extends}
use Rattle.nest_core.specs.declared.setup_fault.SetupFault.TheVariants.{UnknownNormal, TooMany}
use Rattle.nest_core.specs.declared.grow_fault.GrowFault.{GrowFault}
use Rattle.nest_core.specs.declared.grow_fault.GrowFault.TheVariants.{Setup}
use Rattle.nest_core.specs.declared.setup_row.SetupRow.{SetupRow}
use Rattle.nest_core.specs.declared.setup_row.SetupRow.TheVariants as lists
use Rattle.nest_core.proofs.Positions.{EachFound}

abbrev Thing : Type 0
Thing = List ℕ × Option ℕ

abbrev codes_of : List Thing → List (List ℕ)
codes_of es = map (λ e. e.0) es

-- a key that is there keeps its place
by_place : (es : List Thing) (code : List ℕ) (normal : Option ℕ)
    → position_or_len (bytes_eq code) (codes_of es) < length (codes_of es)
    → insert_entry bytes_eq es code normal ≡ rehomed es code normal
by_place [] code normal h = absurd (omega arith)
by_place (e ∷ es) code normal h =
    elim (bytes_eq code e.0) as (λ t.
    cond (not t) (1 + position_or_len (bytes_eq code) (codes_of es)) 0 < suc (length (codes_of es))
    → cond t ((e.0, normal) ∷ es) (e ∷ insert_entry bytes_eq es code normal)
    ≡ cond t ((e.0, normal) ∷ es) (e ∷ rehomed es code normal)) [
      | true ↦ λ k. refl
      | false ↦ λ k. ap (λ rest. e ∷ rest) (by_place es code normal (omega arith))
    ] h

found_before : (p : List ℕ → Bool) (xs : List (List ℕ)) → is_some (position p xs) ≡ true
    → position_or_len p xs < length xs
found_before p xs =
    elim (nat_lt (position_or_len p xs) (length xs)) as (λ t.
    nat_lt (position_or_len p xs) (length xs) ≡ t
    → is_some (cond t (Some (position_or_len p xs)) None) ≡ true
    → position_or_len p xs < length xs) [
      | true ↦ λ t h. grind (arith, nat_tests)
      | false ↦ λ t h. absurd (false≢true h)
    ] refl

pub inserted : (S : Museum) (code : List ℕ) (normal : Option ℕ)
    → is_some (find_thing S code) ≡ true
    → insert_entry bytes_eq S.things code normal ≡ rehomed S.things code normal
inserted S code normal there =
    by_place S.things code normal (found_before (bytes_eq code) (thing_codes S) there)

-- and is found by its code
unseen : (es : List Thing) (code : List ℕ) → lookup (bytes_eq code) es ≡ None
    → position_or_len (bytes_eq code) (codes_of es) ≡ length (codes_of es)
unseen [] code h = refl
unseen (e ∷ es) code h =
    elim (bytes_eq code e.0) as (λ t. cond t (Some e.1) (lookup (bytes_eq code) es) ≡ None
    → cond (not t) (1 + position_or_len (bytes_eq code) (codes_of es)) 0
    ≡ suc (length (codes_of es))) [
      | true ↦ λ k. absurd (cc)
      | false ↦ λ k. omega (arith, unseen es code k)
    ] h

pub never_unseen : (S : Museum) (code : List ℕ) → is_some (find_thing S code) ≡ true
    → lookup (bytes_eq code) S.things ≡ None → ⊥
never_unseen S code there none = absurd (omega (
  arith,
  found_before (bytes_eq code) (thing_codes S) there,
  unseen S.things code none,
))

pub codes_kept : (es : List Thing) (code : List ℕ) (normal : Option ℕ)
    → codes_of (rehomed es code normal) ≡ codes_of es
codes_kept [] code normal = refl
codes_kept (e ∷ es) code normal =
    elim (bytes_eq code e.0) as (λ t.
    codes_of (cond t ((e.0, normal) ∷ es) (e ∷ rehomed es code normal)) ≡ codes_of (e ∷ es)) [
      | true ↦ refl
      | false ↦ ap (λ rest. e.0 ∷ rest) (codes_kept es code normal)
    ]

rows_right : (n : ℕ) (es : List Thing) (code : List ℕ) (normal : Option ℕ)
    → list_all (is_thing_row n) es ≡ true → is_thing_row n (code, normal) ≡ true
    → list_all (is_thing_row n) (rehomed es code normal) ≡ true
rows_right n [] code normal all right = refl
rows_right n (e ∷ es) code normal all right =
    let both = and_parts (is_thing_row n e) (list_all (is_thing_row n) es) all in
    elim (bytes_eq code e.0) as (λ t. bytes_eq code e.0 ≡ t
    → list_all (is_thing_row n) (cond t ((e.0, normal) ∷ es) (e ∷ rehomed es code normal))
    ≡ true) [
      | true ↦ λ k.
          let same : code ≡ e.0 = (bytes_eq-Decides code e.0).0 k in
          let first : is_thing_row n (e.0, normal) ≡ true =
          subst (λ x. is_thing_row n (x, normal) ≡ true) same right in
          rw (first, both.1) refl
      | false ↦ λ k. rw (both.0, rows_right n es code normal both.1 right) refl
    ] refl

rehomed_count : (S : Museum) (code : List ℕ) (normal : Option ℕ)
    → length S.things ≡ length (rehomed S.things code normal)
rehomed_count S code normal = omega (
  arith,
  ap length (codes_kept S.things code normal),
  length-map (rehomed S.things code normal) (λ (e : Thing). e.0),
  length-map S.things (λ (e : Thing). e.0),
)

pub IsMuseum-rehomed : (S : Museum) (code : List ℕ) (normal : Option ℕ) → IsMuseum S
    → is_thing_row (length S.places) (code, normal) ≡ true
    → IsMuseum (record S { things = rehomed S.things code normal })
IsMuseum-rehomed S code normal is right =
    let codes : codes_of (rehomed S.things code normal) ≡ thing_codes S =
    codes_kept S.things code normal in
    record {
      names = is.names;
      codes_of_places = is.codes_of_places;
      codes_of_things = rows_right (length S.places) S.things code normal is.codes_of_things right;
      each_station = is.each_station;
      each_place = is.each_place;
      each_thing = subst EachFound (sym codes) is.each_thing;
      few_stations = is.few_stations;
      few_places = is.few_places;
      few_growths = is.few_growths;
      few_things = omega (arith, is.few_things, rehomed_count S code normal);
      never_fell =
          subst (λ n. NeverFell S.growths (record { places = length S.places; things = n }))
          (rehomed_count S code normal) is.never_fell;
    }

-- a new item is never on the other side
new_side : (o : Option ℕ) (side : ℕ → Bool) → is_some o ≡ false
    → option_map_or side o false ≡ false
new_side None side new = refl
new_side (Some p) side new = absurd (false≢true (sym new))

same_side : (S : Museum) (item : SetupRow) → is_repeated S item ≡ false
    → is_other_side S item ≡ false
same_side S (lists.Station name) new = refl
same_side S (lists.Place code inside) new = new_side (find_place S code) _ new
same_side S (lists.Thing code normal) new = refl

-- a new item has the faults of an item of a setup file
pub new_fault : (S : Museum) (n : ℕ) (item : SetupRow) → is_repeated S item ≡ false
    → taking_fault S n item ≡ option_map Setup (listing_fault S n item)
new_fault S n item new =
    let side = same_side S item new in
    rw (side, new) (by (lacks_normal S item) (is_full S item))
  where
    by : (a b : Bool)
        → (if a then Some (Setup (UnknownNormal n)) else if b then Some (Setup (TooMany n))
        else None)
        ≡ option_map Setup (if a then Some (UnknownNormal n) else if b then Some (TooMany n)
        else None)
    by true b = refl
    by false true = refl
    by false false = refl

pub new_taken : (S : Museum) (item : SetupRow) → is_repeated S item ≡ false
    → with_taken S item ≡ with_listed S item
new_taken S item new = rw new refl

-- a setup that takes in rows lists what it listed
pub same_extends : (S : Museum) → Extends S S
same_extends S = record {
  more_stations = [];
  stations = sym (append-nil S.stations);
  more_places = [];
  places = sym (append-nil S.places);
  more_things = [];
  things = sym (append-nil (thing_codes S));
  growths = refl;
}

pub then_extends : (S T U : Museum) → Extends S T → Extends T U → Extends S U
then_extends S T U a b = record {
  more_stations = a.more_stations ++ b.more_stations;
  stations = b.stations ∙ ap (λ xs. xs ++ b.more_stations) a.stations
      ∙ append_assoc S.stations a.more_stations b.more_stations;
  more_places = a.more_places ++ b.more_places;
  places = b.places ∙ ap (λ xs. xs ++ b.more_places) a.places
      ∙ append_assoc S.places a.more_places b.more_places;
  more_things = a.more_things ++ b.more_things;
  things = b.things ∙ ap (λ xs. xs ++ b.more_things) a.things
      ∙ append_assoc (thing_codes S) a.more_things b.more_things;
  growths = b.growths ∙ a.growths;
}

listed_extends : (S : Museum) (item : SetupRow) → Extends S (with_listed S item)
listed_extends S (lists.Station name) = record {
  more_stations = name ∷ [];
  stations = refl;
  more_places = [];
  places = sym (append-nil S.places);
  more_things = [];
  things = sym (append-nil (thing_codes S));
  growths = refl;
}
listed_extends S (lists.Place code inside) = record {
  more_stations = [];
  stations = sym (append-nil S.stations);
  more_places = (code, inside) ∷ [];
  places = refl;
  more_things = [];
  things = sym (append-nil (thing_codes S));
  growths = refl;
}
listed_extends S (lists.Thing code normal) =
    let row : Thing = (code, option_and_then (find_place S) normal) in
    record {
      more_stations = [];
      stations = sym (append-nil S.stations);
      more_places = [];
      places = sym (append-nil S.places);
      more_things = code ∷ [];
      things = map-append (λ (e : Thing). e.0) S.things (row ∷ []);
      growths = refl;
    }

kept_extends : (S : Museum) (item : SetupRow) → Extends S (kept_with S item)
kept_extends S (lists.Station name) = same_extends S
kept_extends S (lists.Place code inside) = same_extends S
kept_extends S (lists.Thing code normal) =
    let place = option_and_then (find_place S) normal in
    record {
      more_stations = [];
      stations = sym (append-nil S.stations);
      more_places = [];
      places = sym (append-nil S.places);
      more_things = [];
      things = codes_kept S.things code place ∙ sym (append-nil (thing_codes S));
      growths = refl;
    }

pub taken_extends : (S : Museum) (item : SetupRow) → Extends S (with_taken S item)
taken_extends S item =
    elim (is_repeated S item) as (λ b.
    Extends S (if b then kept_with S item else with_listed S item)) [
      | true ↦ kept_extends S item
      | false ↦ listed_extends S item
    ]

row_extends : (T : Taking) (item : Option SetupRow) (fault : Option GrowFault)
    → Extends T.setup (taken_unless T item fault).setup
row_extends T None None = same_extends T.setup
row_extends T (Some item) None = taken_extends T.setup item
row_extends T item (Some fault) = same_extends T.setup

pub all_extends : (T : Taking) (rows : List Fields)
    → Extends T.setup (fold with_further T rows).setup
all_extends T [] = same_extends T.setup
all_extends T (row ∷ rows) =
    let U = with_further T row in
    then_extends T.setup U.setup (fold with_further U rows).setup
    (row_extends (at_next T) (item_of row) (further_fault (at_next T) row)) (all_extends U rows)

pub file_extends : (S : Museum) (bytes : List ℕ) → Extends S (with_file S bytes)
file_extends S bytes = elim (is_utf8 bytes) as (λ b.
    Extends S (if b then (all_taken S bytes).setup else S)) [
      | true ↦ all_extends (untaken S) (rows_of bytes)
      | false ↦ same_extends S
    ]

-- a thing that is listed takes its normal place
pub rehomes : (S : Museum) (n : ℕ) (code : List ℕ) (normal : Option (List ℕ))
    → is_some (find_thing S code) ≡ true → lacks_normal S (lists.Thing code normal) ≡ false
    → (taking_fault S n (lists.Thing code normal) ≡ None)
    × (record S { things = rehomed S.things code (option_and_then (find_place S) normal) }
    ≡ with_taken S (lists.Thing code normal))
rehomes S n code normal there found = (rw (found, there) refl, rw there refl)

pub rehome_fails : (S : Museum) (n : ℕ) (code : List ℕ) (normal : Option (List ℕ))
    → lacks_normal S (lists.Thing code normal) ≡ true
    → taking_fault S n (lists.Thing code normal) ≡ Some (Setup (UnknownNormal n))
rehome_fails S n code normal lacks = rw lacks refl

-- a growth that adds nothing wrong to a setup that lists more
pub IsMuseum-grown : (posted : ℕ) (S T : Museum) → IsMuseum S → IsMuseum T → Extends S T
    → length S.growths < MOST_GROWTHS → IsMuseum (grown posted S T)
IsMuseum-grown posted S T of is more few =
    let places : length T.places ≡ length (S.places ++ more.more_places) = ap length more.places in
    let things : length (thing_codes T) ≡ length (thing_codes S ++ more.more_things) =
    ap length more.things in
    record {
      names = is.names;
      codes_of_places = is.codes_of_places;
      codes_of_things = is.codes_of_things;
      each_station = is.each_station;
      each_place = is.each_place;
      each_thing = is.each_thing;
      few_stations = is.few_stations;
      few_places = is.few_places;
      few_things = is.few_things;
      few_growths = omega (arith, few);
      never_fell = (
        omega (arith, places, length-append S.places more.more_places),
        omega (
          arith,
          things,
          length-append (thing_codes S) more.more_things,
          length-map S.things (λ (e : Thing). e.0),
          length-map T.things (λ (e : Thing). e.0),
        ),
        of.never_fell,
      );
    }

-- a row without a fault can be listed
pub can_be_listed : (S T : Museum) (n : ℕ) (row : Fields) (item : SetupRow)
    (found : Option SetupRow) → own_fault n row ≡ None → found ≡ item_of row → found ≡ Some item
    → listing_fault S n item ≡ None → T ≡ S → (field_count row == 0) ≡ is_none found
    → CanBeListed T row
can_be_listed S T n row item found own is some none same skips =
    let fields : (field_count row == 0) ≡ false = skips ∙ ap is_none some in
    let fault : row_fault S n row ≡ None =
    ap (λ f. option_or f (option_and_then (listing_fault S n) (item_of row))) own
    ∙ ap (option_and_then (listing_fault S n)) (sym is ∙ some) ∙ none in (
      (λ zero. grind (arith, nat_tests)),
      n,
      subst (λ (M : Museum). row_fault M n row ≡ None) (sym same) fault,
    )
