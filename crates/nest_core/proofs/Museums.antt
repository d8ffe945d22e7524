-- Facts about a museum.
use Rattle.std.specs.Prelude.{◌≡◌, ℕ, ◌<◌, ◌≤◌, Bool, true, false, nat_le, nat_lt, List, [], ◌∷◌}
use Rattle.std.specs.Prelude.{◌++◌, length, map, Option, Some, None, IfSome, is_none, is_some, refl}
use Rattle.std.specs.List.{slice_get}
use Rattle.std.specs.Option.{option_map_or, option_and_then}
use Rattle.std.specs.Str.{bytes_eq}
use Rattle.std.proofs.Common.{arith, sym, subst}
use Rattle.std.proofs.lemmas.Bool.{and_parts}
use Rattle.std.proofs.lemmas.Bool.Decides.{nat_tests}
use Rattle.std.proofs.lemmas.List.{length-append, length-map, map-append}
use Rattle.std.proofs.lemmas.List.Quantifiers.{position-Some}
use Rattle.codes_core.specs.Place.{place_fault}
use Rattle.codes_core.specs.Thing.{thing_fault, thing_kind}
use Rattle.codes_core.specs.declared.thing.ThingKind.{ThingKind}
use Rattle.codes_core.specs.declared.thing.ThingKind.TheVariants.{Own, Borrowed, Container}
use Rattle.nest_core.specs.declared.TheConstants.{MOST_STATIONS, MOST_PLACES, MOST_THINGS}
use Rattle.nest_core.specs.declared.growth.Growth.{Growth}
use Rattle.nest_core.specs.declared.growth.Listed.{Listed}
use Rattle.nest_core.specs.Museum.{Museum, IsMuseum, NeverFell, find_station, find_place}
use Rattle.nest_core.specs.Museum.{find_thing}
use Rattle.nest_core.specs.Museum.{place_codes, thing_codes, has_right_normal, is_place_row}
use Rattle.nest_core.specs.Museum.{is_thing_row, listed_now}
use Rattle.nest_core.specs.SetupRows.{has_normal, is_right, lacks_normal, listing_fault}
use Rattle.nest_core.specs.SetupRows.{with_listed}
use Rattle.nest_core.specs.declared.setup_fault.SetupFault.TheVariants.{Repeated, TooMany}
use Rattle.nest_core.specs.declared.setup_fault.SetupFault.TheVariants.{UnknownNormal}
use Rattle.nest_core.specs.StationName.{is_station_name}
use Rattle.nest_core.specs.declared.setup_row.SetupRow.TheVariants as lists
use Rattle.nest_core.proofs.Positions.{passes_at, all_push, all_more, EachFound, EachFound-push}
use Rattle.nest_core.proofs.Positions.{test_true}

below : (p n : ℕ) → nat_lt p n ≡ true → p < n
below p n h = grind (arith, nat_tests)

within : (n : ℕ) (kind : ThingKind) (normal : Option ℕ) → has_right_normal n kind normal ≡ true
    → IfSome normal (λ p. p < n)
within n kind None h = tt
within n Own (Some p) h = below p n h
within n Borrowed (Some p) h = absurd (cc)
within n Container (Some p) h = absurd (cc)

-- a normal place is one of the museum's places
pub normal_within : (S : Museum) (x : ℕ) (row : List ℕ × Option ℕ) → IsMuseum S
    → slice_get S.things x ≡ Some row → IfSome row.1 (λ p. p < length S.places)
normal_within S x row is at =
    within (length S.places) (thing_kind row.0) row.1
    (and_parts (is_none (thing_fault row.0)) _
    (passes_at (is_thing_row (length S.places)) S.things x row is.codes_of_things at)).1

still_below : (p n m : ℕ) → n ≤ m → nat_lt p n ≡ true → nat_lt p m ≡ true
still_below p n m h e = grind (arith, nat_tests)

normal_more : (n m : ℕ) (kind : ThingKind) (normal : Option ℕ) → n ≤ m
    → has_right_normal n kind normal ≡ true → has_right_normal m kind normal ≡ true
normal_more n m Own None h e = absurd (cc)
normal_more n m Own (Some p) h e = still_below p n m h e
normal_more n m Borrowed normal h e = e
normal_more n m Container normal h e = e

thing_row_more : (n m : ℕ) (row : List ℕ × Option ℕ) → n ≤ m → is_thing_row n row ≡ true
    → is_thing_row m row ≡ true
thing_row_more n m row h e =
    let both = and_parts (is_none (thing_fault row.0))
    (has_right_normal n (thing_kind row.0) row.1) e in
    rw (both.0, normal_more n m (thing_kind row.0) row.1 h both.1) refl

-- growths that fit what is listed fit a setup that lists more
pub fell_more : (gs : List Growth) (less more : Listed) → less.places ≤ more.places
    → less.things ≤ more.things → NeverFell gs less → NeverFell gs more
fell_more [] less more p t fell = tt
fell_more (g ∷ gs) less more p t fell =
    (omega (arith, fell.0), omega (arith, fell.1), fell.2)

-- one more station
pub IsMuseum-station : (S : Museum) (name : List ℕ) → IsMuseum S → is_station_name name ≡ true
    → find_station S name ≡ None → length S.stations < MOST_STATIONS
    → IsMuseum (record S { stations = S.stations ++ name ∷ [] })
IsMuseum-station S name is right none few = record {
  names = all_push is_station_name S.stations name is.names right;
  codes_of_places = is.codes_of_places;
  codes_of_things = is.codes_of_things;
  each_station = EachFound-push S.stations name is.each_station none;
  each_place = is.each_place;
  each_thing = is.each_thing;
  few_stations = omega (arith, length-append S.stations (name ∷ []));
  few_places = is.few_places;
  few_growths = is.few_growths;
  few_things = is.few_things;
  never_fell = is.never_fell;
}

-- one more place
pub IsMuseum-place : (S : Museum) (code : List ℕ) (inside : Bool) → IsMuseum S
    → is_none (place_fault code) ≡ true → find_place S code ≡ None → length S.places < MOST_PLACES
    → IsMuseum (record S { places = S.places ++ (code, inside) ∷ [] })
IsMuseum-place S code inside is right none few =
    let more = length-append S.places ((code, inside) ∷ []) in
    let listed : map (λ row. row.0) (S.places ++ (code, inside) ∷ []) ≡ place_codes S ++ code ∷ [] =
    map-append (λ row. row.0) S.places ((code, inside) ∷ []) in
    record {
      names = is.names;
      codes_of_places = all_push is_place_row S.places (code, inside) is.codes_of_places right;
      codes_of_things = all_more (is_thing_row (length S.places))
          (is_thing_row (length (S.places ++ (code, inside) ∷ []))) S.things
          (λ row. thing_row_more (length S.places) (length (S.places ++ (code, inside) ∷ [])) row
          (omega arith)) is.codes_of_things;
      each_station = is.each_station;
      each_place = subst EachFound (sym listed)
          (EachFound-push (place_codes S) code is.each_place none);
      each_thing = is.each_thing;
      few_stations = is.few_stations;
      few_places = omega arith;
      few_growths = is.few_growths;
      few_things = is.few_things;
      never_fell = fell_more S.growths (listed_now S)
          (listed_now (record S { places = S.places ++ (code, inside) ∷ [] }))
          (omega arith) (omega arith) is.never_fell;
    }

-- one more thing
pub IsMuseum-thing : (S : Museum) (code : List ℕ) (normal : Option ℕ) → IsMuseum S
    → is_thing_row (length S.places) (code, normal) ≡ true → find_thing S code ≡ None
    → length S.things < MOST_THINGS
    → IsMuseum (record S { things = S.things ++ (code, normal) ∷ [] })
IsMuseum-thing S code normal is right none few =
    let more = length-append S.things ((code, normal) ∷ []) in
    let listed : map (λ row. row.0) (S.things ++ (code, normal) ∷ []) ≡ thing_codes S ++ code ∷ [] =
    map-append (λ row. row.0) S.things ((code, normal) ∷ []) in
    record {
      names = is.names;
      codes_of_places = is.codes_of_places;
      codes_of_things = all_push (is_thing_row (length S.places)) S.things (code, normal)
          is.codes_of_things right;
      each_station = is.each_station;
      each_place = is.each_place;
      each_thing = subst EachFound (sym listed)
          (EachFound-push (thing_codes S) code is.each_thing none);
      few_stations = is.few_stations;
      few_places = is.few_places;
      few_growths = is.few_growths;
      few_things = omega arith;
      never_fell = fell_more S.growths (listed_now S)
          (listed_now (record S { things = S.things ++ (code, normal) ∷ [] }))
          (omega arith) (omega arith) is.never_fell;
    }

lacking : (found : Option ℕ) → is_none found ≡ false → (p : ℕ) × (found ≡ Some p)
lacking None e = absurd (cc)
lacking (Some p) e = (p, refl)

place_below : (S : Museum) (code : List ℕ) (p : ℕ) → find_place S code ≡ Some p
    → p < length S.places
place_below S code p found =
    omega (
      arith,
      (position-Some (bytes_eq code) (place_codes S) p [] found).0,
      length-map S.places (λ (row : List ℕ × Bool). row.0),
    )

normal_found : (S : Museum) (kind : ThingKind) (normal : Option (List ℕ))
    → has_normal kind normal ≡ true
    → option_map_or (λ place. is_none (find_place S place)) normal false ≡ false
    → has_right_normal (length S.places) kind (option_and_then (find_place S) normal) ≡ true
normal_found S Own None h e = absurd (cc)
normal_found S Own (Some place) h e =
    let there = lacking (find_place S place) e in
    subst (λ o. has_right_normal (length S.places) Own o ≡ true) (sym there.1)
    (test_true there.0 (length S.places) (place_below S place there.0 there.1))
normal_found S Borrowed None h e = refl
normal_found S Borrowed (Some place) h e = absurd (cc)
normal_found S Container None h e = refl
normal_found S Container (Some place) h e = absurd (cc)

-- a thing's row is valid if its normal place was found
pub thing_row_right : (S : Museum) (code : List ℕ) (normal : Option (List ℕ))
    → is_right (lists.Thing code normal) ≡ true → lacks_normal S (lists.Thing code normal) ≡ false
    → is_thing_row (length S.places) (code, option_and_then (find_place S) normal) ≡ true
thing_row_right S code normal right found =
    let both = and_parts (is_none (thing_fault code)) (has_normal (thing_kind code) normal) right in
    rw (both.0, normal_found S (thing_kind code) normal both.1 found) refl

few_left : (n limit : ℕ) → n < limit → nat_le limit n ≡ false
few_left n limit h = grind (arith, nat_tests)

place_fits : (S : Museum) (n : ℕ) (code : List ℕ) (inside : Bool) → find_place S code ≡ None
    → length S.places < MOST_PLACES → listing_fault S n (lists.Place code inside) ≡ None
place_fits S n code inside none few = rw (none, few_left (length S.places) MOST_PLACES few) refl

thing_fits : (S : Museum) (n : ℕ) (code : List ℕ) (normal : Option (List ℕ))
    → find_thing S code ≡ None → lacks_normal S (lists.Thing code normal) ≡ false
    → length S.things < MOST_THINGS
    → listing_fault S n (lists.Thing code normal) ≡ None
thing_fits S n code normal none found few =
    rw (none, found, few_left (length S.things) MOST_THINGS few) refl

pub thing_repeated : (S : Museum) (n : ℕ) (code : List ℕ) (normal : Option (List ℕ))
    → is_some (find_thing S code) ≡ true
    → listing_fault S n (lists.Thing code normal) ≡ Some (Repeated n)
thing_repeated S n code normal there = rw there refl

-- an item without a fault is added last
pub place_added : (S B : Museum) (n : ℕ) (code : List ℕ) (inside : Bool) → S ≡ B
    → find_place S code ≡ None → length S.places < MOST_PLACES
    → (listing_fault B n (lists.Place code inside) ≡ None)
    × (record S { places = S.places ++ (code, inside) ∷ [] } ≡ with_listed B
    (lists.Place code inside))
place_added S B n code inside is none few =
    subst (λ (m : Museum). (listing_fault m n (lists.Place code inside) ≡ None)
    × (record S { places = S.places ++ (code, inside) ∷ [] } ≡ with_listed m
    (lists.Place code inside))) is
    (place_fits S n code inside none few, refl)

pub thing_added : (S B : Museum) (n : ℕ) (code : List ℕ) (normal : Option (List ℕ)) → S ≡ B
    → find_thing S code ≡ None → lacks_normal S (lists.Thing code normal) ≡ false
    → length S.things < MOST_THINGS
    → (listing_fault B n (lists.Thing code normal) ≡ None)
    × (record S { things = S.things ++ (code, option_and_then (find_place S) normal) ∷ [] }
    ≡ with_listed B (lists.Thing code normal))
thing_added S B n code normal is none found few =
    subst (λ (m : Museum). (listing_fault m n (lists.Thing code normal) ≡ None)
    × (record S { things = S.things ++ (code, option_and_then (find_place S) normal) ∷ [] }
    ≡ with_listed m (lists.Thing code normal))) is
    (thing_fits S n code normal none found few, refl)

-- a normal place that was found, or none was needed
pub normal_there : (S : Museum) (code : List ℕ) (normal : Option (List ℕ)) (number : Option ℕ)
    → number ≡ option_and_then (find_place S) normal → is_none number ≡ false
    → lacks_normal S (lists.Thing code normal) ≡ false
normal_there S code None number e some = refl
normal_there S code (Some place) number e some = rw (← e) some

pub normal_unasked : (S : Museum) (code : List ℕ) (normal : Option (List ℕ))
    → is_some normal ≡ false → lacks_normal S (lists.Thing code normal) ≡ false
normal_unasked S code None none = refl
normal_unasked S code (Some place) none = absurd (cc)

-- the normal place is not known
pub normal_missing : (S : Museum) (n : ℕ) (code : List ℕ) (normal : Option (List ℕ))
    (number : Option ℕ) → find_thing S code ≡ None → number ≡ option_and_then (find_place S) normal
    → is_some normal ≡ true → is_none number ≡ true
    → listing_fault S n (lists.Thing code normal) ≡ Some (UnknownNormal n)
normal_missing S n code None number none is some missing = absurd (cc)
normal_missing S n code (Some place) number none is some missing =
    let lacks : is_none (find_place S place) ≡ true = rw (← is) missing in rw (none, lacks) refl

none_left : (n limit : ℕ) → limit ≤ n → nat_le limit n ≡ true
none_left n limit h = grind (arith, nat_tests)

-- no more things fit
pub things_full : (S : Museum) (n : ℕ) (code : List ℕ) (normal : Option (List ℕ))
    → find_thing S code ≡ None → lacks_normal S (lists.Thing code normal) ≡ false
    → MOST_THINGS ≤ length S.things
    → listing_fault S n (lists.Thing code normal) ≡ Some (TooMany n)
things_full S n code normal none found most =
    rw (none, found, none_left (length S.things) MOST_THINGS most) refl
