-- A text that is longer than each code of its kind is no code.
use Rattle.std.proofs.Common.{◌≡◌, ◌<◌, ℕ, List, [], ◌∷◌, length, map, Option, Some, None, is_none}
use Rattle.std.proofs.Common.{arith, false, refl, true}
use Rattle.std.proofs.lemmas.List.{length-map}
use Rattle.codes_core.specs.Place.{place_fault}
use Rattle.codes_core.specs.Thing.{thing_fault}
use Rattle.codes_core.proofs.Segments.{place_text}
use Rattle.codes_core.proofs.Texts.{thing_text}
use Rattle.desk_core.specs.Codes.{as_place, as_thing, capitalised, cased, is_place, is_thing}

not_none : {A : Type 0} (found : Option A) → ¬ (found ≡ None) → is_none found ≡ false
not_none None h = absurd (h refl)
not_none (Some x) h = refl

long_place : (text : List ℕ) → 35 < length text → is_place text ≡ false
long_place text long =
    not_none (place_fault text) (λ e. omega (arith, (place_text text e).short))

long_thing : (text : List ℕ) → 27 < length text → is_thing text ≡ false
long_thing text long =
    not_none (thing_fault text) (λ e. omega (arith, (thing_text text e).short))

length-capitalised : (text : List ℕ) → length (capitalised text) ≡ length text
length-capitalised [] = refl
length-capitalised (b ∷ bs) = refl

pub long_as_place : (word : List ℕ) → 35 < length word → is_place (as_place word) ≡ false
long_as_place word long =
    long_place (as_place word) (omega (arith, length-map word (cased true)))

pub long_as_thing : (word : List ℕ) → 27 < length word → is_thing (as_thing word) ≡ false
long_as_thing word long =
    long_thing (as_thing word) (omega (
      arith,
      length-capitalised (map (cased false) word),
      length-map word (cased false),
    ))
