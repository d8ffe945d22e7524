-- The effect of marking on each row.
use Rattle.std.proofs.Common.{◌≡◌, ℕ, zero, suc, ◌+◌, ◌<◌, Bool, true, false, List, [], ◌∷◌, ◌++◌}
use Rattle.std.proofs.Common.{length, take, map, Option, Some, None, if◌then◌else◌, refl, ap, ◌∙◌}
use Rattle.std.proofs.Common.{sym, subst, arith, get_or}
use Rattle.std.specs.Prelude.{slice_get, is_none}
use Rattle.std.specs.List.{range_with_len}
use Rattle.std.specs.Option.{option_map_or, option_and_then}
use Rattle.std.specs.Str.{bytes_eq}
use Rattle.std.proofs.lemmas.Option.{get_or_from_slice_get}
use Rattle.std.proofs.lemmas.List.{take_more, length-map}
use Rattle.std.proofs.lemmas.List.Quantifiers.{position-Some}
use Rattle.std.proofs.lemmas.List.FromFn.{get_or-map-range_with_len, length-map-range_with_len}
use Rattle.nest_core.specs.Museum.{Museum, find_place, find_thing, place_codes, thing_codes}
use Rattle.posting_core.specs.Book.{Book, place_in}
use Rattle.count_core.specs.declared.count_row.CountRow.{CountRow}
use Rattle.count_core.specs.declared.lookup.Looked.{Looked}
use Rattle.count_core.specs.declared.answer.CountAnswer.{CountAnswer}
use Rattle.count_core.specs.declared.answer.CountAnswer.TheVariants.{UnknownPlace, Counted}
use Rattle.count_core.specs.declared.answer.CountAnswer.TheVariants.{UnknownObject, Again, Found}
use Rattle.count_core.specs.declared.answer.CountAnswer.TheVariants.{Elsewhere}
use Rattle.count_core.specs.Marks.{AreNames, flagged, with_flag, again_for, mark}
use Rattle.count_core.specs.Reports.{lies_at}
use Rattle.count_core.specs.Counts.{found_from, look_object, look, named, looked_of, look_at}
use Rattle.count_core.specs.Counts.{is_again, answer, answer_at}
use Rattle.count_core.proofs.Flags.{names_then, flag_is}

thing_below : (S : Museum) (code : List ℕ) (x : ℕ) → find_thing S code ≡ Some x
    → x < length S.things
thing_below S code x found =
    omega (
      arith,
      (position-Some (bytes_eq code) (thing_codes S) x [] found).0,
      length-map S.things (λ (row : List ℕ × Option ℕ). row.0),
    )

pub named_below : (S : Museum) (o : Option (List ℕ)) (x : ℕ)
    → option_and_then (find_thing S) o ≡ Some x → x < length S.things
named_below S None x found = absurd (cc)
named_below S (Some code) x found = thing_below S code x found

-- a row whose place is known becomes Again
found_again : (S : Museum) (sought : List ℕ) (o : Option ℕ)
    → again_for (found_from S sought o) ≡ Again
found_again S sought None = refl
found_again S sought (Some p) = branch (lies_at S p sought)
  where
    branch : (b : Bool) → again_for (if b then Found else Elsewhere p) ≡ Again
    branch true = refl
    branch false = refl

object_again : (B : Book) (sought : List ℕ) (o : Option ℕ)
    → again_for (option_map_or (λ x. found_from B.museum sought (place_in B x)) o
    UnknownObject) ≡ Again
object_again B sought None = refl
object_again B sought (Some x) = found_again B.museum sought (place_in B x)

row_again : (B : Book) (sought : List ℕ) (o : Option (List ℕ))
    → again_for (option_map_or (look_object B sought) o Counted) ≡ Again
row_again B sought None = refl
row_again B sought (Some code) = object_again B sought (find_thing B.museum code)

-- the marks, whatever the place and the flag
marks : (unknown before : Bool) (a : CountAnswer) → again_for a ≡ Again
    → mark before (if unknown then UnknownPlace else a)
    ≡ (if unknown then UnknownPlace else if before then Again else if unknown then
    UnknownPlace else a)
marks true true a is = refl
marks true false a is = refl
marks false true a is = is
marks false false a is = refl

-- the answer to a row, by the flags
said : (B : Book) (before : List CountRow) (r : CountRow) (flags : List Bool)
    → AreNames (named B.museum) (length B.museum.things) before flags
    → mark (flagged flags (named B.museum r)) (look B r) ≡ answer B before r
said B before r flags are =
    ap (λ b. mark b (look B r)) (flag_is (named B.museum) (length B.museum.things) before flags are
    (named B.museum r) (named_below B.museum r.object))
    ∙ marks (is_none (find_place B.museum r.place)) (is_again B.museum before r)
    (option_map_or (look_object B r.place) r.object Counted) (row_again B r.place r.object)

-- the result that the workers found for row i
first_is : (B : Book) (rows : List CountRow) (looked : List Looked) (i : ℕ) (first : Looked)
    → looked ≡ map (look_at B rows) (range_with_len 0 (length rows)) → i < length rows
    → slice_get looked i ≡ Some first → first ≡ look_at B rows i
first_is B rows looked i first is lt at =
    sym (get_or_from_slice_get looked i first first at)
    ∙ (ap (λ (xs : List Looked). get_or xs i first) is ∙ get_or-map-range_with_len
    (look_at B rows) 0 (length rows) i i first lt (omega arith))

pub looked_length : (B : Book) (rows : List CountRow) (looked : List Looked)
    → looked ≡ map (look_at B rows) (range_with_len 0 (length rows)) → length looked ≡ length rows
looked_length B rows looked is =
    ap length is ∙ length-map-range_with_len (look_at B rows) 0 (length rows)

some_at : (xs : List CountRow) (i : ℕ) → i < length xs → (r : CountRow) × (slice_get xs i ≡ Some r)
some_at [] i lt = absurd (omega arith)
some_at (x ∷ xs) zero lt = (x, refl)
some_at (x ∷ xs) (suc i) lt = some_at xs i (omega arith)

pub place_below : (S : Museum) (code : List ℕ) (q : ℕ) → find_place S code ≡ Some q
    → q < length S.places
place_below S code q found =
    omega (
      arith,
      (position-Some (bytes_eq code) (place_codes S) q [] found).0,
      length-map S.places (λ (row : List ℕ × Bool). row.0),
    )

-- row i, and the number of its place
pub found_at : (B : Book) (rows : List CountRow) (looked : List Looked) (i : ℕ) (first : Looked)
    → i < length rows → looked ≡ map (look_at B rows) (range_with_len 0 (length rows))
    → slice_get looked i ≡ Some first
    → (r : CountRow) × (take (i + 1) rows ≡ take i rows ++ r ∷ [])
    × (find_place B.museum r.place ≡ first.place)
found_at B rows looked i first lt all there =
    let at = some_at rows i lt in
    let r = at.0 in
    let more : take (i + 1) rows ≡ take i rows ++ r ∷ [] =
    take_more rows i r lt ∙ ap (λ (q : CountRow). take i rows ++ q ∷ [])
    (get_or_from_slice_get rows i r r at.1) in
    let is : first ≡ looked_of B r =
    first_is B rows looked i first all lt there
    ∙ ap (λ (o : Option CountRow). option_map_or (looked_of B) o
    (record { answer = UnknownPlace; thing = None; place = None })) at.1 in
    (r, more, ap (λ (l : Looked). l.place) (sym is))

-- row i and its answer
pub said_at : (B : Book) (rows : List CountRow) (looked : List Looked) (i : ℕ) (flags : List Bool)
    (first : Looked) → AreNames (named B.museum) (length B.museum.things) (take i rows) flags
    → i < length rows → looked ≡ map (look_at B rows) (range_with_len 0 (length rows))
    → slice_get looked i ≡ Some first
    → (mark (flagged flags first.thing) first.answer ≡ answer_at B rows i)
    × AreNames (named B.museum) (length B.museum.things) (take (i + 1) rows)
    (with_flag flags first.thing)
said_at B rows looked i flags first are lt all there =
    let at = some_at rows i lt in
    let r = at.0 in
    let more : take (i + 1) rows ≡ take i rows ++ r ∷ [] =
    take_more rows i r lt ∙ ap (λ (q : CountRow). take i rows ++ q ∷ [])
    (get_or_from_slice_get rows i r r at.1) in
    let is : first ≡ looked_of B r =
    first_is B rows looked i first all lt there
    ∙ ap (λ (o : Option CountRow). option_map_or (looked_of B) o
    (record { answer = UnknownPlace; thing = None; place = None })) at.1 in (
      ap (λ (l : Looked). mark (flagged flags l.thing) l.answer) is
          ∙ (said B (take i rows) r flags are
          ∙ sym (ap (λ (o : Option CountRow). option_map_or (answer B (take i rows)) o
          UnknownPlace) at.1)),
      subst (λ (l : Looked). AreNames (named B.museum) (length B.museum.things) (take (i + 1) rows)
          (with_flag flags l.thing)) (sym is)
          (subst (λ (xs : List CountRow). AreNames (named B.museum) (length B.museum.things) xs
          (with_flag flags (named B.museum r))) (sym more)
          (names_then (named B.museum) (length B.museum.things) (take i rows) r flags are)),
    )
