-- A setup that grew finds everything that it listed before, with the same number and properties.
use Rattle.std.specs.Prelude.{ℕ, ◌+◌, ◌≡◌, ◌<◌, ◌≤◌, ◌||◌, Bool, true, false, cond, not, nat_lt}
use Rattle.std.specs.Prelude.{List, [], ◌∷◌, ◌++◌, length, map, filter, Option, None, Some}
use Rattle.std.specs.Prelude.{is_some, unwrap_or, refl, zero, suc, slice_get, if◌then◌else◌}
use Rattle.std.specs.List.{position, position_or_len, list_any, range_with_len}
use Rattle.std.specs.Option.{option_map, option_map_or}
use Rattle.std.specs.Str.{bytes_eq}
use Rattle.std.proofs.Common.{arith, ap, sym, ◌∙◌}
use Rattle.std.proofs.lemmas.Bool.{false≢true, not-false, or_parts}
use Rattle.std.proofs.lemmas.Bool.Decides.{nat_tests}
use Rattle.std.proofs.lemmas.List.{length-append, length-map, map-append, append-nil}
use Rattle.std.proofs.lemmas.List.Elements.{filter-append}
use Rattle.std.proofs.lemmas.List.Folds.{list_any-append}
use Rattle.std.proofs.lemmas.List.Quantifiers.{position-Some}
use Rattle.codes_core.specs.Thing.{thing_kind}
use Rattle.nest_core.specs.declared.growth.Growth.{Growth}
use Rattle.nest_core.specs.declared.growth.Listed.{Listed}
use Rattle.nest_core.specs.SetupGrowing.{Extends, grown}
use Rattle.nest_core.specs.Museum.{Museum, place_codes, thing_codes, find_place, find_thing}
use Rattle.nest_core.specs.Museum.{find_place_at, find_thing_at, among_first, listed_by, listed_now}
use Rattle.nest_core.specs.Museum.{listed_at, is_inside, is_elsewhere, kind_of}
use Rattle.nest_core.specs.Museum.{is_borrowed, is_borrowed_kind, is_container, is_container_kind}
use Rattle.nest_core.specs.Museum.{NeverFell}
use Rattle.nest_core.proofs.Positions.{absent}
use Rattle.posting_core.specs.Growing.{HasGrown}
use Rattle.posting_core.specs.Messages.{thing_no, place_no}
use Rattle.posting_core.specs.Verdicts.{is_known, is_known_place}

-- lists with more items at the end

or_len_still : {X : Type 0} (p : X → Bool) (xs ys : List X) → position_or_len p xs < length xs
    → position_or_len p (xs ++ ys) ≡ position_or_len p xs
or_len_still p [] ys h = absurd (omega arith)
or_len_still p (x ∷ xs) ys h =
    elim (not (p x)) as (λ b. cond b (1 + position_or_len p xs) 0 < suc (length xs)
    → cond b (1 + position_or_len p (xs ++ ys)) 0 ≡ cond b (1 + position_or_len p xs) 0) [
      | false ↦ λ k. refl
      | true ↦ λ k. ap (λ n. 1 + n) (or_len_still p xs ys (omega arith))
    ] h

or_len_behind : {X : Type 0} (p : X → Bool) (xs ys : List X) → position_or_len p xs ≡ length xs
    → length xs ≤ position_or_len p (xs ++ ys)
or_len_behind p [] ys h = omega arith
or_len_behind p (x ∷ xs) ys h =
    elim (not (p x)) as (λ b. cond b (1 + position_or_len p xs) 0 ≡ suc (length xs)
    → suc (length xs) ≤ cond b (1 + position_or_len p (xs ++ ys)) 0) [
      | false ↦ λ k. absurd (omega arith)
      | true ↦ λ k. let rest = or_len_behind p xs ys (omega arith) in omega arith
    ] h

found_is : (n len i : ℕ) → cond (nat_lt n len) (Some n) None ≡ Some i → (n < len) × (n ≡ i)
found_is n len i =
    elim (nat_lt n len) as (λ t. nat_lt n len ≡ t → cond t (Some n) None ≡ Some i
    → (n < len) × (n ≡ i)) [
      | true ↦ λ t e. ((grind (arith, nat_tests)), cc)
      | false ↦ λ t e. absurd (cc)
    ] refl

test_true : (a b : ℕ) → a < b → nat_lt a b ≡ true
test_true a b h = grind (arith, nat_tests)

test_false : (a b : ℕ) → b ≤ a → nat_lt a b ≡ false
test_false a b h = grind (arith, nat_tests)

pub found_still : {X : Type 0} (p : X → Bool) (xs ys : List X) (i : ℕ) → position p xs ≡ Some i
    → position p (xs ++ ys) ≡ Some i
found_still p xs ys i e =
    let is = found_is (position_or_len p xs) (length xs) i e in
    let still : position_or_len p (xs ++ ys) ≡ i = or_len_still p xs ys is.0 ∙ is.1 in
    let less : i < length (xs ++ ys) = omega (arith, length-append xs ys, is.0, is.1) in
    rw (still, test_true i (length (xs ++ ys)) less) refl

pub found_behind : {X : Type 0} (p : X → Bool) (xs ys : List X) (i : ℕ) → position p xs ≡ None
    → position p (xs ++ ys) ≡ Some i → length xs ≤ i
found_behind p xs ys i none e =
    let is = found_is (position_or_len p (xs ++ ys)) (length (xs ++ ys)) i e in
    omega (arith, or_len_behind p xs ys (absent p xs none), is.1)

-- a search among the first items has the same result
pub first_still : {X : Type 0} (count : ℕ) (p : X → Bool) (xs ys : List X) → count ≤ length xs
    → among_first count (position p (xs ++ ys)) ≡ among_first count (position p xs)
first_still count p xs ys few =
    elim (position p xs) as (λ o. position p xs ≡ o
    → among_first count (position p (xs ++ ys)) ≡ among_first count o) [
      | Some i ↦ λ e. ap (among_first count) (found_still p xs ys i e)
      | None ↦ λ e. elim (position p (xs ++ ys)) as
          (λ o. position p (xs ++ ys) ≡ o → among_first count o ≡ None) [
            | None ↦ λ k. refl
            | Some i ↦ λ k. rw (test_false i count (omega (arith, found_behind p xs ys i e k))) refl
          ] refl
    ] refl

pub get_first : {X : Type 0} (xs ys : List X) (i : ℕ) → i < length xs
    → slice_get (xs ++ ys) i ≡ slice_get xs i
get_first [] ys i h = absurd (omega arith)
get_first (x ∷ xs) ys zero h = refl
get_first (x ∷ xs) ys (suc i) h = get_first xs ys i (omega arith)

-- ranges

pub range_split : (a n k : ℕ) → range_with_len a (n + k)
    ≡ range_with_len a n ++ range_with_len (a + n) k
range_split a zero k =
    let none : 0 + k ≡ k = omega arith in
    let from : a ≡ a + 0 = omega arith in
    ap (λ m. range_with_len a m) none ∙ ap (λ m. range_with_len m k) from
range_split a (suc n) k =
    let more : suc n + k ≡ suc (n + k) = omega arith in
    let from : a + 1 + n ≡ a + suc n = omega arith in
    ap (range_with_len a) more ∙ ap (λ ys. a ∷ ys)
    (range_split (a + 1) n k ∙ ap (λ m. range_with_len (a + 1) n ++ range_with_len m k) from)

pub filter_off : (p : ℕ → Bool) (a n : ℕ) → ((y : ℕ) → a ≤ y → p y ≡ false)
    → filter p (range_with_len a n) ≡ []
filter_off p a zero h = refl
filter_off p a (suc n) h =
    rw (h a (omega arith)) (filter_off p (a + 1) n (λ y le. h y (omega arith)))

pub any_off : (p : ℕ → Bool) (a n : ℕ) → ((y : ℕ) → a ≤ y → p y ≡ false)
    → list_any p (range_with_len a n) ≡ false
any_off p a zero h = refl
any_off p a (suc n) h = rw (h a (omega arith)) (any_off p (a + 1) n (λ y le. h y (omega arith)))

or_off : (a b : Bool) → b ≡ false → (a || b) ≡ a
or_off true b e = refl
or_off false b e = e

-- a longer range has the same filtered items if none of the further ones passes
pub filter_still : (p : ℕ → Bool) (n k : ℕ) → ((y : ℕ) → n ≤ y → p y ≡ false)
    → filter p (range_with_len 0 (n + k)) ≡ filter p (range_with_len 0 n)
filter_still p n k h =
    ap (filter p) (range_split 0 n k) ∙ filter-append p (range_with_len 0 n)
    (range_with_len (0 + n) k)
    ∙ ap (λ ys. filter p (range_with_len 0 n) ++ ys)
    (filter_off p (0 + n) k (λ y le. h y (omega arith)))
    ∙ append-nil (filter p (range_with_len 0 n))

pub any_still : (p : ℕ → Bool) (n k : ℕ) → ((y : ℕ) → n ≤ y → p y ≡ false)
    → list_any p (range_with_len 0 (n + k)) ≡ list_any p (range_with_len 0 n)
any_still p n k h =
    ap (list_any p) (range_split 0 n k) ∙ list_any-append p (range_with_len 0 n)
    (range_with_len (0 + n) k)
    ∙ or_off (list_any p (range_with_len 0 n)) _ (any_off p (0 + n) k (λ y le. h y (omega arith)))

-- two tests that agree on a range agree on its filtered items
pub filter_twice : (p q r : ℕ → Bool) (a n : ℕ) → ((y : ℕ) → y < a + n → p y ≡ q y)
    → filter p (filter r (range_with_len a n)) ≡ filter q (filter r (range_with_len a n))
filter_twice p q r a zero h = refl
filter_twice p q r a (suc n) h =
    let rest = filter_twice p q r (a + 1) n (λ y lt. h y (omega arith)) in
    elim (r a) as
    (λ b. filter p
    (cond b (a ∷ filter r (range_with_len (a + 1) n)) (filter r (range_with_len (a + 1) n)))
    ≡ filter q
    (cond b (a ∷ filter r (range_with_len (a + 1) n))
    (filter r (range_with_len (a + 1) n)))) [
      | true ↦ ap
          (λ (b : Bool). cond b (a ∷ filter p (filter r (range_with_len (a + 1) n)))
          (filter p (filter r (range_with_len (a + 1) n)))) (h a (omega arith))
          ∙ ap (λ (ys : List ℕ). cond (q a) (a ∷ ys) ys) rest
      | false ↦ rest
    ]

-- never more was listed than now
pub below_now : (gs : List Growth) (k : ℕ) (now : Listed) → NeverFell gs now
    → ((listed_by gs k now).places ≤ now.places) × ((listed_by gs k now).things ≤ now.things)
below_now [] k now h = (omega arith, omega arith)
below_now (g ∷ gs) k now (places, things, rest) =
    let before = below_now gs k g.listed rest in
    elim (nat_lt k g.after) as
    (λ b. ((if b then listed_by gs k g.listed else now).places ≤ now.places)
    × ((if b then listed_by gs k g.listed else now).things ≤ now.things)) [
      | true ↦ (omega (arith, before.0), omega (arith, before.1))
      | false ↦ (omega arith, omega arith)
    ]

-- the setup S grew to T after n entries
pub record Grew (n : ℕ) (S T : Museum) : Type 0 where
  pub more_stations : List (List ℕ)
  pub stations : T.stations ≡ S.stations ++ more_stations
  pub more_places : List (List ℕ × Bool)
  pub places : T.places ≡ S.places ++ more_places
  pub more_things : List (List ℕ)
  pub things : thing_codes T ≡ thing_codes S ++ more_things
  pub growths : T.growths ≡ record { after = n; listed = listed_now S } ∷ S.growths

pub grew : (n : ℕ) (S T : Museum) → Extends S T → Grew n S (grown n S T)
grew n S T e = record {
  more_stations = e.more_stations;
  stations = e.stations;
  more_places = e.more_places;
  places = e.places;
  more_things = e.more_things;
  things = e.things;
  growths = refl;
}

module _ (n : ℕ) (S T : Museum) (g : Grew n S T) (kept : NeverFell S.growths (listed_now S)) where
  pub more_things : length T.things ≡ length S.things + length g.more_things
  more_things =
      omega (
        arith,
        length-map T.things (λ (row : List ℕ × Option ℕ). row.0),
        length-map S.things
            (λ (row : List ℕ × Option ℕ). row.0),
        ap length g.things,
        length-append
            (thing_codes S) g.more_things,
      )

  pub more_places : length S.places ≤ length T.places
  more_places = omega (arith, ap length g.places, length-append S.places g.more_places)

  pub more_stations : length S.stations ≤ length T.stations
  more_stations = omega (arith, ap length g.stations, length-append S.stations g.more_stations)

  places_behind : place_codes T ≡ place_codes S ++ map (λ row. row.0) g.more_places
  places_behind = ap (map (λ (row : List ℕ × Bool). row.0)) g.places
      ∙ map-append (λ (row : List ℕ × Bool). row.0) S.places g.more_places

  -- both setups list the same for an entry before the growth
  pub listed_same : (k : ℕ) → k < n → listed_at T k ≡ listed_at S k
  listed_same k less =
      ap (λ gs. listed_by gs k (listed_now T)) g.growths
      ∙ ap (λ b. if b then listed_by S.growths k (listed_now S) else listed_now T)
      (test_true k n less)

  pub thing_at_same : (k : ℕ) (x : List ℕ) → k < n → find_thing_at T k x ≡ find_thing_at S k x
  thing_at_same k x less =
      ap (λ (l : Listed). among_first l.things (find_thing T x)) (listed_same k less)
      ∙ ap (λ codes. among_first (listed_at S k).things (position (bytes_eq x) codes)) g.things
      ∙ first_still (listed_at S k).things (bytes_eq x) (thing_codes S) g.more_things
      (omega (
        arith,
        (below_now S.growths k (listed_now S) kept).1,
        length-map S.things
            (λ (row : List ℕ × Option ℕ). row.0),
      ))

  pub place_at_same : (k : ℕ) (p : List ℕ) → k < n → find_place_at T k p ≡ find_place_at S k p
  place_at_same k p less =
      ap (λ (l : Listed). among_first l.places (find_place T p)) (listed_same k less)
      ∙ ap (λ codes. among_first (listed_at S k).places (position (bytes_eq p) codes)) places_behind
      ∙ first_still (listed_at S k).places (bytes_eq p) (place_codes S)
      (map (λ row. row.0) g.more_places)
      (omega (
        arith,
        (below_now S.growths k (listed_now S) kept).0,
        length-map S.places
            (λ (row : List ℕ × Bool). row.0),
      ))

  -- everything known keeps its number
  pub thing_no_same : (x : List ℕ) → is_known S x ≡ true → thing_no T x ≡ thing_no S x
  thing_no_same x =
      elim (find_thing S x) as (λ o. find_thing S x ≡ o → is_some o ≡ true
      → thing_no T x ≡ unwrap_or o (length S.things)) [
        | None ↦ λ e k. absurd (false≢true k)
        | Some i ↦
            λ e k. ap (λ codes. unwrap_or (position (bytes_eq x) codes) (length T.things)) g.things
            ∙ ap (λ o. unwrap_or o (length T.things))
            (found_still (bytes_eq x) (thing_codes S) g.more_things i e)
      ] refl

  pub place_no_same : (p : List ℕ) → is_known_place S p ≡ true → place_no T p ≡ place_no S p
  place_no_same p =
      elim (find_place S p) as (λ o. find_place S p ≡ o → is_some o ≡ true
      → place_no T p ≡ unwrap_or o (length S.places)) [
        | None ↦ λ e k. absurd (false≢true k)
        | Some i ↦
            λ e k. ap (λ codes. unwrap_or (position (bytes_eq p) codes) (length T.places))
            places_behind
            ∙ ap (λ o. unwrap_or o (length T.places))
            (found_still (bytes_eq p) (place_codes S) (map (λ row. row.0) g.more_places) i e)
      ] refl

  pub numbers_same : (xs : List (List ℕ)) → list_any (λ x. not (is_known S x)) xs ≡ false
      → map (thing_no T) xs ≡ map (thing_no S) xs
  numbers_same [] known = refl
  numbers_same (x ∷ xs) known =
      let both = or_parts (not (is_known S x)) (list_any (λ y. not (is_known S y)) xs) known in
      ap (λ y. y ∷ map (thing_no T) xs) (thing_no_same x (not-false (is_known S x) both.0))
      ∙ ap (λ ys. thing_no S x ∷ ys) (numbers_same xs both.1)

  -- and its kind or side
  kind_same : (i : ℕ) → i < length S.things → kind_of T i ≡ kind_of S i
  kind_same i less =
      ap (λ codes. option_map thing_kind (slice_get codes i)) g.things
      ∙ ap (option_map thing_kind)
      (get_first (thing_codes S) g.more_things i
      (omega (arith, length-map S.things (λ (row : List ℕ × Option ℕ). row.0))))

  pub container_same : (i : ℕ) → i < length S.things → is_container T i ≡ is_container S i
  container_same i less = ap (λ o. option_map_or is_container_kind o false) (kind_same i less)

  pub borrowed_same : (i : ℕ) → i < length S.things → is_borrowed T i ≡ is_borrowed S i
  borrowed_same i less = ap (λ o. option_map_or is_borrowed_kind o false) (kind_same i less)

  place_row_same : (p : ℕ) → p < length S.places → slice_get T.places p ≡ slice_get S.places p
  place_row_same p less = ap (λ rows. slice_get rows p) g.places
      ∙ get_first S.places g.more_places p less

  pub inside_same : (p : ℕ) → p < length S.places → is_inside T p ≡ is_inside S p
  inside_same p less = ap (λ o. option_map_or (λ row. row.1) o false) (place_row_same p less)

  pub elsewhere_same : (p : ℕ) → p < length S.places → is_elsewhere T p ≡ is_elsewhere S p
  elsewhere_same p less = ap (λ o. option_map_or (λ row. not row.1) o false) (place_row_same p less)

-- after the last growth everything is listed
pub all_listed : (gs : List Growth) (n : ℕ) (now : Listed) → HasGrown gs n
    → listed_by gs n now ≡ now
all_listed [] n now h = refl
all_listed (g ∷ gs) n now h =
    ap (λ b. if b then listed_by gs n g.listed else now) (test_false n g.after h)

first_of_all : (limit : ℕ) (p : List ℕ → Bool) (xs : List (List ℕ)) → limit ≡ length xs
    → among_first limit (position p xs) ≡ position p xs
first_of_all limit p xs same =
    elim (position p xs) as (λ o. position p xs ≡ o → among_first limit o ≡ o) [
      | None ↦ λ e. refl
      | Some i ↦
          λ e. ap (λ b. if b then Some i else None)
          (test_true i limit (omega (arith, (position-Some p xs i [] e).0, same)))
    ] refl

pub all_things : (S : Museum) (n : ℕ) (x : List ℕ) → HasGrown S.growths n
    → find_thing_at S n x ≡ find_thing S x
all_things S n x h =
    ap (λ (l : Listed). among_first l.things (find_thing S x))
    (all_listed S.growths n (listed_now S) h)
    ∙ first_of_all (length S.things) (bytes_eq x) (thing_codes S)
    (sym (length-map S.things (λ (row : List ℕ × Option ℕ). row.0)))

pub all_places : (S : Museum) (n : ℕ) (p : List ℕ) → HasGrown S.growths n
    → find_place_at S n p ≡ find_place S p
all_places S n p h =
    ap (λ (l : Listed). among_first l.places (find_place S p))
    (all_listed S.growths n (listed_now S) h)
    ∙ first_of_all (length S.places) (bytes_eq p) (place_codes S)
    (sym (length-map S.places (λ (row : List ℕ × Bool). row.0)))
