-- Defines the answer to each row of a count list, and the objects that the list misses. The order
-- of answers is UnknownPlace, Counted, UnknownObject, Again, Unplaced, Found, Elsewhere.
use Rattle.std.specs.Prelude.{ℕ, ◌<◌, ◌==◌, ◌&&◌, Bool, false, not, List, [], ◌∷◌, length, take}
use Rattle.std.specs.Prelude.{map, filter, Option, Some, None, is_none, if◌then◌else◌, slice_get}
use Rattle.std.specs.Option.{option_map_or, option_and_then}
use Rattle.std.specs.List.{list_any, filter_map, flat_map, range_with_len}
use Rattle.nest_core.specs.Museum.{Museum, find_place, find_thing, place_code_of, is_container}
use Rattle.posting_core.specs.Book.{Book, place_in}
use Rattle.count_core.specs.declared.count_row.CountRow.{CountRow}
use Rattle.count_core.specs.declared.lookup.Looked.{Looked}
use Rattle.count_core.specs.declared.answer.MissingObject.{MissingObject}
use Rattle.count_core.specs.declared.answer.CountAnswer.{CountAnswer}
use Rattle.count_core.specs.declared.answer.CountAnswer.TheVariants.{UnknownPlace, Counted}
use Rattle.count_core.specs.declared.answer.CountAnswer.TheVariants.{UnknownObject, Again, Unplaced}
use Rattle.count_core.specs.declared.answer.CountAnswer.TheVariants.{Found, Elsewhere}
use Rattle.count_core.specs.Reports.{lies_at, is_in}

-- The answer for a thing at this place that was seen in place `sought`.
abbrev pub found_from : Museum → List ℕ → Option ℕ → CountAnswer
found_from S sought None = Unplaced
found_from S sought (Some p) = if lies_at S p sought then Found else Elsewhere p

-- The answer for a thing that was seen in place `sought`. UnknownObject if the setup doesn't have
-- it.
abbrev pub answer_for : Book → List ℕ → Option ℕ → CountAnswer
answer_for B sought thing =
    option_map_or (λ x. found_from B.museum sought (place_in B x)) thing UnknownObject

-- The answer for the thing with this code.
abbrev pub look_object : Book → List ℕ → List ℕ → CountAnswer
look_object B sought code = answer_for B sought (find_thing B.museum code)

-- The answer to a row on its own. Counted: the row names a place and no thing.
abbrev pub look : Book → CountRow → CountAnswer
look B row =
    if is_none (find_place B.museum row.place) then UnknownPlace
    else option_map_or (look_object B row.place) row.object Counted

-- The number of the thing that a row names.
abbrev pub named : Museum → CountRow → Option ℕ
named S row = option_and_then (find_thing S) row.object

-- The answer to a row on its own, and the numbers of its thing and its place.
abbrev pub looked_of : Book → CountRow → Looked
looked_of B row =
    record {
      answer = look B row;
      thing = named B.museum row;
      place = find_place B.museum row.place;
    }

-- The same of row i, from 0.
abbrev pub look_at : Book → List CountRow → ℕ → Looked
look_at B rows i =
    option_map_or (looked_of B) (slice_get rows i)
    (record { answer = UnknownPlace; thing = None; place = None })

-- One of these rows names thing x.
abbrev pub names : Museum → List CountRow → ℕ → Bool
names S rows x = list_any (λ r. option_map_or (λ y. y == x) (named S r) false) rows

-- The row names a thing that an earlier row names.
abbrev pub is_again : Museum → List CountRow → CountRow → Bool
is_again S before row = option_map_or (names S before) (named S row) false

-- The answer to a row after those before it. Again replaces Unplaced, Found and Elsewhere. Earlier
-- rows count whatever their own answer is.
abbrev pub answer : Book → List CountRow → CountRow → CountAnswer
answer B before row =
    if is_none (find_place B.museum row.place) then UnknownPlace
    else (if is_again B.museum before row then Again
    else look B row)

-- The answer to row i, from 0, after the rows before it.
abbrev pub answer_at : Book → List CountRow → ℕ → CountAnswer
answer_at B rows i = option_map_or (answer B (take i rows)) (slice_get rows i) UnknownPlace

-- The answers to all rows.
abbrev pub answers : Book → List CountRow → List CountAnswer
answers B rows = map (answer_at B rows) (range_with_len 0 (length rows))

-- A place in the answer is in the setup.
abbrev pub IsAnswerIn : Museum → CountAnswer → Type 0
IsAnswerIn S UnknownPlace = Unit {0}
IsAnswerIn S Counted = Unit {0}
IsAnswerIn S UnknownObject = Unit {0}
IsAnswerIn S Again = Unit {0}
IsAnswerIn S Unplaced = Unit {0}
IsAnswerIn S Found = Unit {0}
IsAnswerIn S (Elsewhere p) = p < length S.places

-- Each number once, where it first occurs.
abbrev pub first_mentions : List ℕ → List ℕ
first_mentions [] = []
first_mentions (q ∷ qs) = q ∷ filter (λ k. not (k == q)) (first_mentions qs)

-- The known places of the list, in the order of their first mention.
abbrev pub mentioned : Museum → List CountRow → List ℕ
mentioned S rows = first_mentions (filter_map (λ r. find_place S r.place) rows)

-- Thing x is an object, not a container, and no row names it.
abbrev pub is_unnamed : Museum → List CountRow → ℕ → Bool
is_unnamed S rows x = not (names S rows x) && not (is_container S x)

-- Thing x is in place q.
abbrev pub is_within : Book → ℕ → ℕ → Bool
is_within B q x = option_map_or (λ code. is_in B code x) (place_code_of B.museum q) false

-- An object in place q that no row names, whatever the rows' answers are.
abbrev pub is_missing : Book → List CountRow → ℕ → ℕ → Bool
is_missing B rows q x = is_unnamed B.museum rows x && is_within B q x

-- Object and place are in the setup.
abbrev pub IsMissingIn : Museum → MissingObject → Type 0
IsMissingIn S missed = (missed.object < length S.things) × (missed.place < length S.places)

abbrev pub missing_at : ℕ → ℕ → MissingObject
missing_at q x = record { place = q; object = x }

-- The objects that the list misses in place q, in ascending order.
abbrev pub missing_in : Book → List CountRow → ℕ → List MissingObject
missing_in B rows q =
    map (missing_at q) (filter (is_missing B rows q) (range_with_len 0 (length B.museum.things)))

-- The objects that the list misses, place by place.
abbrev pub missing : Book → List CountRow → List MissingObject
missing B rows = flat_map (missing_in B rows) (mentioned B.museum rows)
