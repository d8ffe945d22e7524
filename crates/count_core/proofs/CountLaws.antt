-- The laws of counts.
use Rattle.std.specs.Prelude.{ℕ, ◌≡◌, ◌≢◌, ◌<◌, ◌==◌, ◌&&◌, ◌||◌, not, Bool, true, false, Contains}
use Rattle.std.specs.Prelude.{List, [], ◌∷◌, filter, map, length, take, Option, Some, None, is_none}
use Rattle.std.specs.Prelude.{if◌then◌else◌, slice_get, zero, suc, refl}
use Rattle.std.proofs.Common.{arith, ap, sym, ◌∙◌}
use Rattle.std.proofs.lemmas.Bool.{and_parts}
use Rattle.std.proofs.lemmas.Bool.Decides.{nat_tests}
use Rattle.std.proofs.lemmas.List.FromFn.{get_or-map-range_with_len, length-map-range_with_len}
use Rattle.std.proofs.lemmas.Option.{get_or_from_slice_get, slice_get_within}
use Rattle.std.specs.List.{list_any, range_with_len}
use Rattle.std.specs.Option.{option_map_or, option_and_then}
use Rattle.nest_core.specs.Museum.{find_place, is_container, place_code_of}
use Rattle.posting_core.specs.Book.{Book}
use Rattle.count_core.specs.declared.count_row.CountRow.{CountRow}
use Rattle.count_core.specs.declared.answer.MissingObject.{MissingObject}
use Rattle.count_core.specs.declared.answer.CountAnswer.{CountAnswer}
use Rattle.count_core.specs.declared.answer.CountAnswer.TheVariants.{UnknownPlace, Again, Found}
use Rattle.count_core.specs.Accounts.{CountsAll, answer_of_row, named_by_row}
use Rattle.count_core.specs.Counts.{answer, answer_at, answers, is_again, is_missing, is_unnamed}
use Rattle.count_core.specs.Counts.{is_within, look, mentioned, missing, missing_at, missing_in}
use Rattle.count_core.specs.Counts.{named, names}
use Rattle.count_core.specs.Reports.{is_in}
use Rattle.count_core.proofs.Membership.{any_of, filter_none, flat_map_none, from_flat_map}
use Rattle.count_core.proofs.Membership.{from_map, kept, let_through}

pub each_answered : (B : Book) (rows : List CountRow) → length (answers B rows) ≡ length rows
each_answered B rows = length-map-range_with_len (answer_at B rows) 0 (length rows)

-- a row before row j names something that passes
before_passes : (p : CountRow → Bool) (rows : List CountRow) (i j : ℕ) (r : CountRow) → i < j
    → slice_get rows i ≡ Some r → p r ≡ true → list_any p (take j rows) ≡ true
before_passes p [] i j r lt at e = absurd (cc)
before_passes p (x ∷ rows) i zero r lt at e = absurd (omega arith)
before_passes p (x ∷ rows) zero (suc j) r lt at e = let same : x ≡ r = cc in
    ap (λ b. b || list_any p (take j rows)) (ap p same ∙ e)
before_passes p (x ∷ rows) (suc i) (suc j) r lt at e =
    later (p x) (before_passes p rows i j r (omega (arith, lt)) at e)
  where
    later : (b : Bool) → list_any p (take j rows) ≡ true → (b || list_any p (take j rows)) ≡ true
    later true h = refl
    later false h = h

-- the row names a thing
row_there : {X : Type 0} (f : CountRow → Option X) (o : Option CountRow) (x : X)
    → option_and_then f o ≡ Some x → (r : CountRow) × (o ≡ Some r) × (f r ≡ Some x)
row_there f None x e = absurd (cc)
row_there f (Some r) x e = (r, refl, e)

not_found : (unknown : Bool) (a : CountAnswer)
    → (if unknown then UnknownPlace else (if true then Again else a)) ≢ Found
not_found true a e = absurd (cc)
not_found false a e = absurd (cc)

same_number : (x : ℕ) → (x == x) ≡ true
same_number x = grind (arith, nat_tests)

pub found_once : (B : Book) (rows : List CountRow) (i j x : ℕ) → i < j
    → named_by_row B rows i ≡ Some x → named_by_row B rows j ≡ Some x
    → answer_of_row B rows j ≢ Some Found
found_once B rows i j x lt first second found =
    let r = row_there (named B.museum) (slice_get rows i) x first in
    let s = row_there (named B.museum) (slice_get rows j) x second in
    let named_before : names B.museum (take j rows) x ≡ true =
    before_passes (λ q. option_map_or (λ y. y == x) (named B.museum q) false) rows i j r.0 lt r.1
    (ap (λ o. option_map_or (λ y. y == x) o false) r.2 ∙ same_number x) in
    let again : is_again B.museum (take j rows) s.0 ≡ true =
    ap (λ o. option_map_or (names B.museum (take j rows)) o false) s.2 ∙ named_before in
    let said : answer_at B rows j ≡ answer B (take j rows) s.0 =
    ap (λ o. option_map_or (answer B (take j rows)) o UnknownPlace) s.1 in
    let is : answer_at B rows j ≡ Found =
    sym (get_or-map-range_with_len (answer_at B rows) 0 (length rows) j j Found
    (slice_get_within rows j s.0 s.1) (omega arith)) ∙ get_or_from_slice_get (answers B rows) j
    Found Found found in
    not_found (is_none (find_place B.museum s.0.place)) (look B s.0)
    (sym (ap (λ b. if is_none (find_place B.museum s.0.place) then UnknownPlace else
    (if b then Again else look B s.0)) again) ∙ (sym said ∙ is))

pub unnamed : (B : Book) (rows : List CountRow) (m : MissingObject) (r : CountRow)
    → Contains (missing B rows) m → Contains rows r → named B.museum r ≢ Some m.object
unnamed B rows m r h there is =
    let place = from_flat_map (missing_in B rows) (mentioned B.museum rows) m h in
    let object = from_map (missing_at place.0)
    (filter (is_missing B rows place.0) (range_with_len 0 (length B.museum.things)))
    m place.2 in
    let same : object.0 ≡ m.object = ap (λ (q : MissingObject). q.object) object.2 in
    let test = (let_through (is_missing B rows place.0) (range_with_len 0 (length B.museum.things))
    object.0 object.1).1 in
    let missed = and_parts (not (names B.museum rows object.0))
    (not (is_container B.museum object.0))
    (and_parts (is_unnamed B.museum rows object.0) (is_within B place.0 object.0) test).0 in
    let by_row : names B.museum rows m.object ≡ true =
    any_of (λ q. option_map_or (λ y. y == m.object) (named B.museum q) false) rows r there
    (ap (λ o. option_map_or (λ y. y == m.object) o false) is ∙ same_number m.object) in
    let no : false ≡ true = sym (ap not (ap (names B.museum rows) same ∙ by_row)) ∙ missed.0 in
    absurd (cc)

-- an object that a row names isn't missing
not_missing : (named_by within : Bool) (other : Bool) → (within ≡ true → named_by ≡ true)
    → ((not named_by && other) && within) ≡ false
not_missing true within other all = refl
not_missing false true true all = absurd (let no : false ≡ true = all refl in cc)
not_missing false true false all = refl
not_missing false false true all = refl
not_missing false false false all = refl

in_known : (B : Book) (q x : ℕ) → is_within B q x ≡ true → (code : List ℕ)
    × (place_code_of B.museum q ≡ Some code) × (is_in B code x ≡ true)
in_known B q x e = by (place_code_of B.museum q) refl e
  where
    by : (o : Option (List ℕ)) → place_code_of B.museum q ≡ o
        → option_map_or (λ code. is_in B code x) o false ≡ true
        → (code : List ℕ) × (place_code_of B.museum q ≡ Some code) × (is_in B code x ≡ true)
    by None is k = absurd (cc)
    by (Some code) is k = (code, is, k)

pub whole : (B : Book) (rows : List CountRow) → CountsAll B rows → missing B rows ≡ []
whole B rows all =
    flat_map_none (missing_in B rows) (mentioned B.museum rows)
    (λ q mention. ap (map (missing_at q))
    (filter_none (is_missing B rows q) (range_with_len 0 (length B.museum.things)) (λ x low.
    not_missing (names B.museum rows x) (is_within B q x) (not (is_container B.museum x)) (λ within.
    let known = in_known B q x within in
    all q x known.0 mention known.1
    (kept (is_in B known.0) (range_with_len 0 (length B.museum.things)) x low known.2)))))
