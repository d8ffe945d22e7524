-- As long as no row of a setup file has a fault, a check lists the rows as the reader does. Both
-- find the same first fault.
use Rattle.std.specs.Prelude.{ℕ, ◌≡◌, ◌+◌, ◌==◌, ◌&&◌, ◌||◌, Bool, true, false, cond, not, nat_le}
use Rattle.std.specs.Prelude.{nat_lt, is_none, suc, List, [], ◌∷◌, ◌++◌, length, fold, Option}
use Rattle.std.specs.Prelude.{Some, None, is_some, option_map, codes, if◌then◌else◌, refl}
use Rattle.std.specs.List.{list_any, position, position_or_len}
use Rattle.std.specs.Option.{option_and_then, option_map_or, option_or}
use Rattle.std.specs.Str.{bytes_eq}
use Rattle.std.proofs.Common.{arith, ap, sym, ◌∙◌, append_assoc}
use Rattle.std.proofs.lemmas.Bool.Decides.{nat_tests}
use Rattle.std.proofs.lemmas.List.{append-nil, length_push, map-append}
use Rattle.std.proofs.lemmas.List.Sums.{fold_push}
use Rattle.nest_core.specs.InOrder.{◌if◌, first_or}
use Rattle.nest_core.specs.Museum.{Museum, no_museum, find_place, find_station, find_thing}
use Rattle.nest_core.specs.Museum.{is_elsewhere, is_inside, place_codes, thing_codes}
use Rattle.nest_core.specs.declared.TheConstants.{MOST_STATIONS, MOST_PLACES, MOST_THINGS}
use Rattle.nest_core.specs.SetupRows.{Fields, field, field_count, first_fault, item_of}
use Rattle.nest_core.specs.SetupRows.{listing_fault, museum_of, own_fault, row_fault, with_row}
use Rattle.nest_core.specs.SetupGrowing.{Items, Taking, at_next, further_fault, item_fault}
use Rattle.nest_core.specs.SetupGrowing.{rehomed, taken, taken_unless, with_further}
use Rattle.nest_core.specs.declared.setup_fault.SetupFault.{SetupFault}
use Rattle.nest_core.specs.declared.setup_fault.SetupFault.TheVariants.{Repeated, UnknownNormal}
use Rattle.nest_core.specs.declared.setup_fault.SetupFault.TheVariants.{TooMany}
use Rattle.nest_core.specs.declared.grow_fault.GrowFault.{GrowFault}
use Rattle.nest_core.specs.declared.grow_fault.GrowFault.TheVariants.{OtherSide, Setup}
use Rattle.count_core.specs.SetupChecks.{first_of}

-- the items that a setup lists
abbrev items_of : Museum → Items
items_of S = record { stations = S.stations; places = place_codes S; things = thing_codes S }

-- after n rows without a fault, which list this setup
abbrev pub reached : Museum → ℕ → Taking
reached S n = record { setup = S; above = items_of S; faults = []; row = n }

some_if : {A : Type 0} (t : Bool) (a : A) → is_some (cond t (Some a) None) ≡ t
some_if true a = refl
some_if false a = refl

before_end : (p : List ℕ → Bool) (xs : List (List ℕ))
    → list_any p xs ≡ nat_lt (position_or_len p xs) (length xs)
before_end p [] = refl
before_end p (x ∷ xs) =
    elim (p x) as (λ t. (t || list_any p xs)
    ≡ nat_lt (cond (not t) (1 + position_or_len p xs) 0) (suc (length xs))) [
      | true ↦ grind (arith, nat_tests)
      | false ↦ before_end p xs ∙ grind (arith, nat_tests)
    ]

found : (p : List ℕ → Bool) (xs : List (List ℕ)) → list_any p xs ≡ is_some (position p xs)
found p xs =
    before_end p xs
    ∙ sym (some_if (nat_lt (position_or_len p xs) (length xs)) (position_or_len p xs))

-- The fault that the check finds in an item, by cases.
abbrev check_fault : ℕ → (above again side lacks full : Bool) → Option GrowFault
check_fault n above again side lacks full =
    if above then Some (Setup (Repeated n)) else first_or None (
    (Some (OtherSide n) if side)
    ∷ (Some (Setup (UnknownNormal n)) if lacks)
    ∷ (Some (Setup (TooMany n)) if not again && full) ∷ [])

-- The same in the reader.
abbrev read_fault : ℕ → (again lacks full : Bool) → Option SetupFault
read_fault n again lacks full = first_or None (
    (Some (Repeated n) if again)
    ∷ (Some (UnknownNormal n) if lacks)
    ∷ (Some (TooMany n) if full) ∷ [])

same_fault : (n : ℕ) (above again side lacks full : Bool) → above ≡ again
    → (again ≡ false → side ≡ false)
    → check_fault n above again side lacks full ≡ option_map Setup (read_fault n again lacks full)
same_fault n above true side lacks full is new = rw is refl
same_fault n above false side true full is new = rw (is, new refl) refl
same_fault n above false side false true is new = rw (is, new refl) refl
same_fault n above false side false false is new = rw (is, new refl) refl

is_new : (n : ℕ) (again lacks full : Bool) → read_fault n again lacks full ≡ None → again ≡ false
is_new n true lacks full none = absurd (cc)
is_new n false lacks full none = refl

-- The check lists an item as the reader does, or both find the same fault.
record Takes (n : ℕ) (above again side lacks full : Bool) (kept listed : Museum) (items : Items)
    : Type 0 where
  faults : check_fault n above again side lacks full
      ≡ option_map Setup (read_fault n again lacks full)
  lists : read_fault n again lacks full ≡ None
      → record { setup = if again then kept else listed; above = items; faults = []; row = n }
      ≡ reached listed n

lists_new : (n : ℕ) (again : Bool) (kept listed : Museum) (items : Items) → again ≡ false
    → items ≡ items_of listed
    → record { setup = if again then kept else listed; above = items; faults = []; row = n }
    ≡ reached listed n
lists_new n again kept listed items new is = rw (new, is) refl

takes : (n : ℕ) (above again side lacks full : Bool) (kept listed : Museum) (items : Items)
    → above ≡ again → (again ≡ false → side ≡ false) → items ≡ items_of listed
    → Takes n above again side lacks full kept listed items
takes n above again side lacks full kept listed items same new is = record {
  faults = same_fault n above again side lacks full same new;
  lists = λ none. lists_new n again kept listed items (is_new n again lacks full none) is;
}

no_side : (place : Option ℕ) (side : ℕ → Bool) → is_some place ≡ false
    → option_map_or side place false ≡ false
no_side None side new = refl
no_side (Some p) side new = absurd (cc)

abbrev with_station : Museum → List ℕ → Museum
with_station S name = record S { stations = S.stations ++ name ∷ [] }

abbrev with_place : Museum → List ℕ → Bool → Museum
with_place S code inside = record S { places = S.places ++ (code, inside) ∷ [] }

abbrev with_thing : Museum → List ℕ → Option ℕ → Museum
with_thing S code normal = record S { things = S.things ++ (code, normal) ∷ [] }

takes_station : (S : Museum) (n : ℕ) (name : List ℕ)
    → Takes n (list_any (bytes_eq name) S.stations) (is_some (find_station S name)) false false
    (nat_le MOST_STATIONS (length S.stations)) S (with_station S name)
    (record (items_of S) { stations = S.stations ++ name ∷ [] })
takes_station S n name =
    takes n _ _ _ _ _ _ _ _ (found (bytes_eq name) S.stations) (λ new. refl) refl

-- A place is listed with the other word.
abbrev is_other : Museum → List ℕ → Bool → Bool
is_other S code inside =
    option_map_or (λ p. if inside then is_elsewhere S p else is_inside S p) (find_place S code)
    false

takes_place : (S : Museum) (n : ℕ) (code : List ℕ) (inside : Bool)
    → Takes n (list_any (bytes_eq code) (place_codes S)) (is_some (find_place S code))
    (is_other S code inside) false (nat_le MOST_PLACES (length S.places)) S
    (with_place S code inside) (record (items_of S) { places = place_codes S ++ code ∷ [] })
takes_place S n code inside = takes n _ _ _ _ _ _ _ _ (found (bytes_eq code) (place_codes S))
    (no_side (find_place S code) (λ p. if inside then is_elsewhere S p else is_inside S p))
    (ap (λ places. record (items_of S) { places = places })
    (sym (map-append (λ row. row.0) S.places ((code, inside) ∷ []))))

-- No row lists the normal place.
abbrev lacks : Museum → Option (List ℕ) → Bool
lacks S normal = option_map_or (λ place. is_none (find_place S place)) normal false

takes_thing : (S : Museum) (n : ℕ) (code : List ℕ) (normal : Option (List ℕ))
    → Takes n (list_any (bytes_eq code) (thing_codes S)) (is_some (find_thing S code)) false
    (lacks S normal) (nat_le MOST_THINGS (length S.things))
    (record S { things = rehomed S.things code (option_and_then (find_place S) normal) })
    (with_thing S code (option_and_then (find_place S) normal))
    (record (items_of S) { things = thing_codes S ++ code ∷ [] })
takes_thing S n code normal =
    takes n _ _ _ _ _ _ _ _ (found (bytes_eq code) (thing_codes S)) (λ new. refl)
    (ap (λ things. record (items_of S) { things = things })
    (sym (map-append (λ row. row.0) S.things
    ((code, option_and_then (find_place S) normal) ∷ []))))

-- The check takes the item of row n, after rows without a fault, exactly if the reader does.
abbrev TakesItem : Museum → ℕ → Fields → Type 0
TakesItem S n row =
    (option_and_then (item_fault (reached S n)) (item_of row)
    ≡ option_map Setup (option_and_then (listing_fault S n) (item_of row)))
    × (option_and_then (listing_fault S n) (item_of row) ≡ None
    → taken (reached S n) (item_of row) ≡ reached (with_row S row) n)

-- by the word in the first field
by_word : (S : Museum) (n : ℕ) (row : Fields) (none station place box own lent : Bool)
    → (field_count row == 0) ≡ none
    → bytes_eq (field row 0) (codes "station") ≡ station
    → bytes_eq (field row 0) (codes "place") ≡ place
    → bytes_eq (field row 0) (codes "box") ≡ box
    → bytes_eq (field row 0) (codes "own") ≡ own
    → bytes_eq (field row 0) (codes "lent") ≡ lent → TakesItem S n row
by_word S n row true station place box own lent e f g h i j = rw e (refl, λ none. refl)
by_word S n row false true place box own lent e f g h i j =
    let takes = takes_station S n (field row 1) in rw (e, f) (takes.faults, takes.lists)
by_word S n row false false true box own lent e f g h i j =
    let takes = takes_place S n (field row 1) (bytes_eq (field row 2) (codes "inside")) in
    rw (e, f, g) (takes.faults, takes.lists)
by_word S n row false false false true own lent e f g h i j =
    let takes = takes_thing S n (field row 1) None in rw (e, f, g, h) (takes.faults, takes.lists)
by_word S n row false false false false true lent e f g h i j =
    let takes = takes_thing S n (field row 1) (Some (field row 2)) in
    rw (e, f, g, h, i) (takes.faults, takes.lists)
by_word S n row false false false false false true e f g h i j =
    let takes = takes_thing S n (field row 1) None in
    rw (e, f, g, h, i, j) (takes.faults, takes.lists)
by_word S n row false false false false false false e f g h i j =
    rw (e, f, g, h, i, j) (refl, λ none. refl)

takes_item : (S : Museum) (n : ℕ) (row : Fields) → TakesItem S n row
takes_item S n row = by_word S n row _ _ _ _ _ _ refl refl refl refl refl refl

own_first : (own : Option SetupFault) (o : Option GrowFault) (q : Option SetupFault)
    → o ≡ option_map Setup q
    → option_or (option_map Setup own) o ≡ option_map Setup (option_or own q)
own_first (Some f) o q is = refl
own_first None o q is = is

-- the fault of a row
row_same : (S : Museum) (n : ℕ) (row : Fields)
    → further_fault (reached S n) row ≡ option_map Setup (row_fault S n row)
row_same S n row = own_first (own_fault n row) _ _ (takes_item S n row).0

after_row : (S : Museum) (n : ℕ) (row : Fields) (fault : Option SetupFault)
    → row_fault S (n + 1) row ≡ fault
    → with_further (reached S n) row
    ≡ taken_unless (reached S (n + 1)) (item_of row) (option_map Setup fault)
after_row S n row fault is =
    ap (taken_unless (reached S (n + 1)) (item_of row))
    (row_same S (n + 1) row ∙ ap (option_map Setup) is)

-- a row without a fault

both_none : {A : Type 0} (o q : Option A) → option_or o q ≡ None → (o ≡ None) × (q ≡ None)
both_none None q none = (refl, none)
both_none (Some x) q none = absurd (cc)

lists_row : (S : Museum) (n : ℕ) (row : Fields) → row_fault S (n + 1) row ≡ None
    → with_further (reached S n) row ≡ reached (with_row S row) (n + 1)
lists_row S n row none =
    after_row S n row None none
    ∙ (takes_item S (n + 1) row).1 (both_none (own_fault (n + 1) row) _ none).1

lists_next : (before : List Fields) (row : Fields)
    → row_fault (museum_of before) (length before + 1) row ≡ None
    → with_further (reached (museum_of before) (length before)) row
    ≡ reached (museum_of (before ++ row ∷ [])) (length (before ++ row ∷ []))
lists_next before row none =
    lists_row (museum_of before) (length before) row none
    ∙ ap (λ S. reached S (length before + 1)) (sym (fold_push with_row no_museum before row))
    ∙ ap (reached (museum_of (before ++ row ∷ []))) (sym (length_push before row))

-- without a fault the check lists what the reader lists
pub lists_all : (before rows : List Fields) → first_fault before rows ≡ None
    → fold with_further (reached (museum_of before) (length before)) rows
    ≡ reached (museum_of (before ++ rows)) (length (before ++ rows))
lists_all before [] none =
    ap (λ all. reached (museum_of all) (length all)) (sym (append-nil before))
lists_all before (row ∷ rows) none =
    let both = both_none (row_fault (museum_of before) (length before + 1) row) _ none in
    ap (λ T. fold with_further T rows) (lists_next before row both.0)
    ∙ lists_all (before ++ row ∷ []) rows both.1
    ∙ ap (λ all. reached (museum_of all) (length all)) (append_assoc before (row ∷ []) rows)

-- the first fault stays the first

first_push : {A : Type 0} (xs : List A) (x y : A) → first_of xs ≡ Some x
    → first_of (xs ++ y ∷ []) ≡ Some x
first_push [] x y is = absurd (cc)
first_push (z ∷ xs) x y is = is

same_faults : (T : Taking) (row : Fields) (f : GrowFault) → first_of T.faults ≡ Some f
    → first_of (taken T (item_of row)).faults ≡ Some f
same_faults T row f is = elim (item_of row) as (λ item. first_of (taken T item).faults ≡ Some f) [
  | None ↦ is
  | Some item ↦ is
]

stays : (T : Taking) (row : Fields) (fault : Option GrowFault) (f : GrowFault)
    → first_of T.faults ≡ Some f → first_of (taken_unless T (item_of row) fault).faults ≡ Some f
stays T row None f is = same_faults T row f is
stays T row (Some fault) f is = first_push T.faults f fault is

all_stays : (T : Taking) (rows : List Fields) (f : GrowFault) → first_of T.faults ≡ Some f
    → first_of (fold with_further T rows).faults ≡ Some f
all_stays T [] f is = is
all_stays T (row ∷ rows) f is =
    all_stays (with_further T row) rows f
    (stays (at_next T) row (further_fault (at_next T) row) f is)

-- the reader's first fault is the first of the check
pub first_all : (before rows : List Fields) (f : SetupFault) → first_fault before rows ≡ Some f
    → first_of (fold with_further (reached (museum_of before) (length before)) rows).faults
    ≡ Some (Setup f)
first_all before [] f some = absurd (cc)
first_all before (row ∷ rows) f some =
    elim (row_fault (museum_of before) (length before + 1) row) as (λ o.
    row_fault (museum_of before) (length before + 1) row ≡ o
    → option_or o (first_fault (before ++ row ∷ []) rows) ≡ Some f
    → first_of (fold with_further (reached (museum_of before) (length before)) (row ∷ rows)).faults
    ≡ Some (Setup f)) [
      | Some g ↦ λ here is.
          all_stays (with_further (reached (museum_of before) (length before)) row) rows (Setup f)
          (ap (λ (T : Taking). first_of T.faults)
          (after_row (museum_of before) (length before) row (Some g) here)
          ∙ ap (option_map Setup) is)
      | None ↦ λ here is.
          ap (λ T. first_of (fold with_further T rows).faults) (lists_next before row here)
          ∙ first_all (before ++ row ∷ []) rows f is
    ] refl some
