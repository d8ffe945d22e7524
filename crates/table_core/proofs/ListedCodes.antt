-- Which texts are codes of a setup.
use Rattle.std.specs.Prelude.{◌≡◌, ℕ, Bool, true, false, List, [], ◌∷◌, map, Option, Some}
use Rattle.std.specs.Prelude.{is_none, is_some, refl}
use Rattle.std.specs.List.{list_all}
use Rattle.std.proofs.Common.{ap, sym}
use Rattle.std.proofs.lemmas.Bool.{and_parts}
use Rattle.codes_core.specs.Place.{place_fault}
use Rattle.codes_core.specs.Thing.{thing_fault, thing_kind}
use Rattle.codes_core.specs.declared.fault.CodeFault.{CodeFault}
use Rattle.nest_core.specs.Museum.{IsMuseum, Museum, find_place, find_thing, has_right_normal}
use Rattle.nest_core.specs.Museum.{is_place_row, is_thing_row, place_codes, thing_codes}
use Rattle.nest_core.proofs.Positions.{position_unlike}

abbrev is_place_text : List ℕ → Bool
is_place_text text = is_none (place_fault text)

abbrev is_thing_text : List ℕ → Bool
is_thing_text text = is_none (thing_fault text)

places_pass : (rows : List (List ℕ × Bool)) → list_all is_place_row rows ≡ true
    → list_all is_place_text (map (λ row. row.0) rows) ≡ true
places_pass [] h = refl
places_pass (row ∷ rows) h = let both =
    and_parts (is_place_row row) (list_all is_place_row rows) h in
    rw (both.0, places_pass rows both.1) refl

things_pass : (n : ℕ) (rows : List (List ℕ × Option ℕ)) → list_all (is_thing_row n) rows ≡ true
    → list_all is_thing_text (map (λ row. row.0) rows) ≡ true
things_pass n [] h = refl
things_pass n (row ∷ rows) h =
    let both = and_parts (is_thing_row n row) (list_all (is_thing_row n) rows) h in
    let code = (and_parts (is_none (thing_fault row.0))
    (has_right_normal n (thing_kind row.0) row.1) both.0).0 in
    rw (code, things_pass n rows both.1) refl

-- no place has a text that isn't a code
pub no_place : (S : Museum) (text : List ℕ) (fault : CodeFault) → IsMuseum S
    → place_fault text ≡ Some fault → false ≡ is_some (find_place S text)
no_place S text fault is e = sym (ap is_some
    (position_unlike is_place_text (place_codes S) text (places_pass S.places is.codes_of_places)
    (ap is_none e)))

-- and no thing
pub no_thing : (S : Museum) (text : List ℕ) (fault : CodeFault) → IsMuseum S
    → thing_fault text ≡ Some fault → false ≡ is_some (find_thing S text)
no_thing S text fault is e = sym (ap is_some
    (position_unlike is_thing_text (thing_codes S) text
    (things_pass _ S.things is.codes_of_things) (ap is_none e)))
