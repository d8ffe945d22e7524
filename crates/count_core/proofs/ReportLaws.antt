-- The laws of reports.
use Rattle.std.specs.Prelude.{ℕ, ℤ, ◌≡◌, ◌≢◌, ◌<◌, ◌==◌, ◌&&◌, ◌⊎◌, not, Bool, true, false}
use Rattle.std.specs.Prelude.{Contains, List, filter, length, Option, Some, None, option_map}
use Rattle.std.specs.Prelude.{int_lt, if◌then◌else◌, refl}
use Rattle.std.proofs.Common.{arith, ap, sym, ◌∙◌, subst, inl, inr}
use Rattle.std.proofs.lemmas.Bool.{and_parts}
use Rattle.std.proofs.lemmas.Bool.Decides.{nat_tests}
use Rattle.std.proofs.lemmas.List.{length-map}
use Rattle.std.proofs.lemmas.Option.{slice_get_within}
use Rattle.std.specs.List.{list_any, range_with_len}
use Rattle.std.specs.Option.{option_map_or}
use Rattle.codes_core.specs.Place.{lies_in}
use Rattle.codes_core.specs.Thing.{thing_kind}
use Rattle.nest_core.specs.Museum.{Museum, is_own, is_own_kind, kind_of, normal_of, place_code_of}
use Rattle.nest_core.specs.Museum.{thing_codes, thing_code_of}
use Rattle.nest_core.specs.Nest.{is_same_place}
use Rattle.nest_core.specs.Puts.{is_among}
use Rattle.posting_core.specs.declared.stage.LineStage.{LineStage}
use Rattle.posting_core.specs.declared.stage.LineStage.TheVariants.{Awaiting, Away, Back, Here}
use Rattle.posting_core.specs.declared.stage.LineStage.TheVariants.{GivenBack}
use Rattle.posting_core.specs.Loans.{stage}
use Rattle.posting_core.specs.Verdicts.{is_over}
use Rattle.posting_core.specs.Book.{Book, place_in, loans_in, last_day_in, line_in, objects_of_loan}
use Rattle.count_core.specs.declared.answer.AwayObject.{AwayObject}
use Rattle.count_core.specs.Accounts.{IsOverdue}
use Rattle.count_core.specs.Reports.{away, away_object, in_place, is_away, is_in, is_out_still}
use Rattle.count_core.specs.Reports.{is_overdue, is_owed, lies_at, overdue}
use Rattle.count_core.proofs.Membership.{any_of, from_map, in_map, in_range, kept, let_through}
use Rattle.count_core.proofs.Membership.{range_below, some_of}
use Rattle.count_core.proofs.PlaceNesting.{lies_in_itself, lies_through, one_in_other}

-- the test of a value, if there is one
some_value : {X : Type 0} (p : X → Bool) (o : Option X) → option_map_or p o false ≡ true
    → (x : X) × (o ≡ Some x) × (p x ≡ true)
some_value p None e = absurd (cc)
some_value p (Some x) e = (x, refl, e)

-- overdue

owed_stage : (s : LineStage) (o : Option LineStage) → o ≡ Some s → is_out_still s ≡ true
    → (o ≡ Some Away) ⊎ (o ≡ Some Here)
owed_stage Awaiting o is e = absurd (cc)
owed_stage Away o is e = inl is
owed_stage Back o is e = absurd (cc)
owed_stage Here o is e = inr is
owed_stage GivenBack o is e = absurd (cc)

stage_owed : (o : Option LineStage) → (o ≡ Some Away) ⊎ (o ≡ Some Here)
    → option_map_or is_out_still o false ≡ true
stage_owed o (inl is) = ap (λ p. option_map_or is_out_still p false) is
stage_owed o (inr is) = ap (λ p. option_map_or is_out_still p false) is

pub overdue_told : (B : Book) (day : ℤ) (loan : List ℕ) → Contains (overdue B day) loan
    → IsOverdue B day loan
overdue_told B day loan h =
    let found = let_through (is_overdue B day) (loans_in B) loan h in
    let parts = and_parts (is_over B.posted loan day)
    (list_any (is_owed B loan) (objects_of_loan B loan)) found.1 in
    let last = some_value (λ last. int_lt last day) (last_day_in B loan) parts.0 in
    let object = some_of (is_owed B loan) (objects_of_loan B loan) parts.1 in
    let stage = some_value is_out_still (line_in B loan object.0) object.2 in
    record {
      agreed = found.0;
      last = last.0;
      last_day = last.1;
      passed = last.2;
      object = object.0;
      owed = owed_stage stage.0 (line_in B loan object.0) stage.1 stage.2;
    }

among_passes : (p : ℕ → Bool) (o : ℕ) (xs : List ℕ) → is_among o xs ≡ true → p o ≡ true
    → list_any p xs ≡ true
among_passes p o xs among e =
    let found = some_of (λ y. y == o) xs among in
    let same : found.0 ≡ o = grind (arith, nat_tests, found.2) in
    any_of p xs found.0 found.1 (ap p same ∙ e)

has_line : (b : Bool) (s : LineStage) (o : Option LineStage) → o ≡ (if b then Some s else None)
    → option_map_or is_out_still o false ≡ true → b ≡ true
has_line true s o is e = refl
has_line false s o is e =
    absurd (let no : true ≡ false = sym e ∙ ap (λ p. option_map_or is_out_still p false) is in cc)

pub overdue_all : (B : Book) (day : ℤ) (loan : List ℕ) → IsOverdue B day loan
    → Contains (overdue B day) loan
overdue_all B day loan is =
    let owed = stage_owed (line_in B loan is.object) is.owed in
    let among = has_line (is_among is.object (objects_of_loan B loan))
    (stage B.museum B.posted loan is.object) (line_in B loan is.object) refl owed in
    let over : is_over B.posted loan day ≡ true =
    ap (λ o. option_map_or (λ last. int_lt last day) o false) is.last_day ∙ is.passed in
    kept (is_overdue B day) (loans_in B) loan is.agreed
    (ap (λ b. b && list_any (is_owed B loan) (objects_of_loan B loan)) over ∙ among_passes
    (is_owed B loan) is.object (objects_of_loan B loan) among owed)

-- away

not_same : (a b : Option ℕ) → not (is_same_place a b) ≡ true → a ≢ b
not_same None None e is = absurd (cc)
not_same None (Some q) e is = absurd (cc)
not_same (Some p) None e is = absurd (cc)
not_same (Some p) (Some q) e is = absurd (let same : p ≡ q = cc in grind (arith, nat_tests, e))

differ : (a b : Option ℕ) → (a ≢ b) → not (is_same_place a b) ≡ true
differ None None ne = absurd (ne refl)
differ None (Some q) ne = refl
differ (Some p) None ne = refl
differ (Some p) (Some q) ne = by (p == q) refl
  where
    by : (b : Bool) → (p == q) ≡ b → not b ≡ true
    by true e = absurd (let same : p ≡ q = grind (arith, nat_tests) in ne (ap Some same))
    by false e = refl

away_object_is : (B : Book) (x : ℕ) → Contains (away B) (away_object B x) → is_away B x ≡ true
away_object_is B x h =
    let found = from_map (away_object B)
    (filter (is_away B) (range_with_len 0 (length B.museum.things))) (away_object B x) h in
    let same : found.0 ≡ x = ap (λ (a : AwayObject). a.object) found.2 in
    subst (λ y. is_away B y ≡ true) same
    (let_through (is_away B) (range_with_len 0 (length B.museum.things)) found.0 found.1).1

pub away_own : (B : Book) (x : ℕ) → Contains (away B) (away_object B x) → is_own B.museum x ≡ true
away_own B x h =
    (and_parts (is_own B.museum x) (not (is_same_place (place_in B x) (normal_of B.museum x)))
    (away_object_is B x h)).0

pub away_told : (B : Book) (x : ℕ) → Contains (away B) (away_object B x)
    → place_in B x ≢ normal_of B.museum x
away_told B x h = not_same (place_in B x) (normal_of B.museum x)
    (and_parts (is_own B.museum x) (not (is_same_place (place_in B x) (normal_of B.museum x)))
    (away_object_is B x h)).1

mapped : {X Y : Type 0} (f : X → Y) (o : Option X) (y : Y) → option_map f o ≡ Some y
    → (x : X) × (o ≡ Some x)
mapped f None y e = absurd (cc)
mapped f (Some x) y e = (x, refl)

own_listed : (S : Museum) (x : ℕ) → is_own S x ≡ true → x < length S.things
own_listed S x own =
    let kind = some_value is_own_kind (kind_of S x) own in
    let code = mapped thing_kind (thing_code_of S x) kind.0 kind.1 in
    omega (
      arith,
      slice_get_within (thing_codes S) x code.0 code.1,
      length-map S.things (λ (row : List ℕ × Option ℕ). row.0),
    )

pub away_all : (B : Book) (x : ℕ) → is_own B.museum x ≡ true → place_in B x ≢ normal_of B.museum x
    → Contains (away B) (away_object B x)
away_all B x own ne =
    let test : is_away B x ≡ true =
    ap (λ b. b && not (is_same_place (place_in B x) (normal_of B.museum x))) own
    ∙ differ (place_in B x) (normal_of B.museum x) ne in
    in_map (away_object B) (filter (is_away B) (range_with_len 0 (length B.museum.things))) x
    (kept (is_away B) (range_with_len 0 (length B.museum.things)) x
    (in_range (length B.museum.things) x (own_listed B.museum x own)) test)

-- in a place

pub in_place_parts : (B : Book) (sought : List ℕ) (x : ℕ) → Contains (in_place B sought) x
    → (x < length B.museum.things) × (p : ℕ) × (code : List ℕ) × (place_in B x ≡ Some p)
    × (place_code_of B.museum p ≡ Some code) × (lies_in code sought ≡ true)
in_place_parts B sought x h =
    let found = let_through (is_in B sought) (range_with_len 0 (length B.museum.things)) x h in
    let place = some_value (λ p. lies_at B.museum p sought) (place_in B x) found.1 in
    let code = some_value (λ code. lies_in code sought) (place_code_of B.museum place.0) place.2 in
    (range_below (length B.museum.things) x found.0, place.0, code.0, place.1, code.1, code.2)

pub in_place_when : (B : Book) (sought : List ℕ) (x p : ℕ) (code : List ℕ)
    → x < length B.museum.things → place_in B x ≡ Some p → place_code_of B.museum p ≡ Some code
    → lies_in code sought ≡ true → Contains (in_place B sought) x
in_place_when B sought x p code lt at is lies =
    kept (is_in B sought) (range_with_len 0 (length B.museum.things)) x
    (in_range (length B.museum.things) x lt)
    (ap (λ o. option_map_or (λ q. lies_at B.museum q sought) o false) at
    ∙ (ap (λ o. option_map_or (λ c. lies_in c sought) o false) is ∙ lies))

pub in_outer : (B : Book) (inner outer : List ℕ) (x : ℕ) → lies_in inner outer ≡ true
    → Contains (in_place B inner) x → Contains (in_place B outer) x
in_outer B inner outer x lies h =
    let parts = in_place_parts B inner x h in
    in_place_when B outer x parts.1 parts.2 parts.0 parts.3 parts.4
    (lies_through parts.2 inner outer parts.5 lies)

pub in_own_place : (B : Book) (x p : ℕ) (code : List ℕ) → x < length B.museum.things
    → place_in B x ≡ Some p → place_code_of B.museum p ≡ Some code → Contains (in_place B code) x
in_own_place B x p code lt at is = in_place_when B code x p code lt at is (lies_in_itself code)

pub in_one_place : (B : Book) (x : ℕ) (one other : List ℕ) → Contains (in_place B one) x
    → Contains (in_place B other) x → (lies_in one other ≡ true) ⊎ (lies_in other one ≡ true)
in_one_place B x one other h k =
    let a = in_place_parts B one x h in
    let b = in_place_parts B other x k in
    let place : Some a.1 ≡ Some b.1 = sym a.3 ∙ b.3 in
    let code : Some a.2 ≡ Some b.2 =
    sym a.4 ∙ (ap (λ o. option_map_or (place_code_of B.museum) o None) place ∙ b.4) in
    let same : b.2 ≡ a.2 = cc in
    one_in_other a.2 one other a.5 (subst (λ c. lies_in c other ≡ true) same b.5)
