-- Defines three reports: the overdue loans, the own objects away from their normal place, and the
-- things in a place.
use Rattle.std.specs.Prelude.{ℕ, ℤ, ◌<◌, ◌&&◌, Bool, true, false, not, IfSome, List, length, map}
use Rattle.std.specs.Prelude.{filter}
use Rattle.std.specs.Option.{option_map_or}
use Rattle.std.specs.List.{list_any, range_with_len}
use Rattle.codes_core.specs.Place.{lies_in}
use Rattle.nest_core.specs.Museum.{Museum, place_code_of, is_own, normal_of}
use Rattle.nest_core.specs.Nest.{is_same_place}
use Rattle.posting_core.specs.declared.stage.LineStage.{LineStage}
use Rattle.posting_core.specs.declared.stage.LineStage.TheVariants.{Awaiting, Away, Back, Here}
use Rattle.posting_core.specs.declared.stage.LineStage.TheVariants.{GivenBack}
use Rattle.posting_core.specs.Verdicts.{is_over}
use Rattle.posting_core.specs.Book.{Book, place_in, loans_in, objects_of_loan, line_in}
use Rattle.count_core.specs.declared.answer.AwayObject.{AwayObject}

-- The object has left or arrived under its loan and has not gone back.
abbrev pub is_out_still : LineStage → Bool
is_out_still Awaiting = false
is_out_still Away = true
is_out_still Back = false
is_out_still Here = true
is_out_still GivenBack = false

-- The loan lists the object, and it is still owed.
abbrev pub is_owed : Book → List ℕ → ℕ → Bool
is_owed B loan o = option_map_or is_out_still (line_in B loan o) false

-- The loan's last day, as extended, has passed, and an object is still owed. A loan is in time on
-- its last day.
abbrev pub is_overdue : Book → ℤ → List ℕ → Bool
is_overdue B day loan =
    is_over B.posted loan day && list_any (is_owed B loan) (objects_of_loan B loan)

-- The overdue loans, in the order of their agreements.
abbrev pub overdue : Book → ℤ → List (List ℕ)
overdue B day = filter (is_overdue B day) (loans_in B)

-- An own object's place is not its normal place: it is at another, even one inside the normal
-- place, or was never placed.
abbrev pub is_away : Book → ℕ → Bool
is_away B x = is_own B.museum x && not (is_same_place (place_in B x) (normal_of B.museum x))

abbrev pub away_object : Book → ℕ → AwayObject
away_object B x = record { object = x; place = place_in B x }

-- Object and place are in the setup.
abbrev pub IsAwayIn : Museum → AwayObject → Type 0
IsAwayIn S away = (away.object < length S.things) × IfSome away.place (λ p. p < length S.places)

-- The own objects that are away, in ascending order, each with its place or none.
abbrev pub away : Book → List AwayObject
away B = map (away_object B) (filter (is_away B) (range_with_len 0 (length B.museum.things)))

-- Place p lies in the place with this code.
abbrev pub lies_at : Museum → ℕ → List ℕ → Bool
lies_at S p sought = option_map_or (λ code. lies_in code sought) (place_code_of S p) false

-- A thing is in a place if its own place lies in that place.
abbrev pub is_in : Book → List ℕ → ℕ → Bool
is_in B sought x = option_map_or (λ p. lies_at B.museum p sought) (place_in B x) false

-- The things in the place with this code, in ascending order.
abbrev pub in_place : Book → List ℕ → List ℕ
in_place B sought = filter (is_in B sought) (range_with_len 0 (length B.museum.things))
