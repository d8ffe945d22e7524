-- Defines the rows of the places and the things.
use Rattle.std.specs.Prelude.{ℕ, ℤ, ◌∷◌, ◌==◌, [], Bool, List, None, Option, Some, codes}
use Rattle.std.specs.Prelude.{if◌then◌else◌, length, map, option_map}
use Rattle.std.specs.List.{last_or, list_any, range_with_len}
use Rattle.std.specs.Option.{option_map_or}
use Rattle.codes_core.specs.Place.{place_fault}
use Rattle.codes_core.specs.declared.fault.CodeFault.{CodeFault}
use Rattle.codes_core.specs.declared.thing.ThingKind.{ThingKind}
use Rattle.codes_core.specs.declared.thing.ThingKind.TheVariants.{Borrowed, Container, Own}
use Rattle.nest_core.specs.Museum.{Museum, kind_of, normal_of}
use Rattle.posting_core.specs.Book.{Book, chain_in, place_in, spots_in}
use Rattle.reports.specs.Cells.{Cell, day_if, nothing, text, text_if}
use Rattle.reports.specs.Texts.{place_text, place_text_if, thing_text}
use Rattle.reports.specs.Values.{codes_text, word_if}
use Rattle.export_core.specs.Statements.{row}

abbrev pub has_dash : List ℕ → Bool
has_dash code = list_any (λ b. b == 45) code

-- S1-A of S1-A-3: the code without its last segment. Empty for a code of one segment.
abbrev pub before_last_dash : List ℕ → List ℕ
before_last_dash [] = []
before_last_dash (b ∷ bs) = if has_dash bs then b ∷ before_last_dash bs else []

-- The text, if it is the code of a place.
abbrev pub place_if : Option CodeFault → List ℕ → Cell
place_if None code = text code
place_if (Some fault) code = nothing

-- The code of the place that the place with this code is inside.
abbrev pub inside : List ℕ → Cell
inside code = place_if (place_fault (before_last_dash code)) (before_last_dash code)

-- S1-A S1: a place, and the one that it is inside.
abbrev pub place_row : Museum → ℕ → List ℕ
place_row S p = row (text (place_text S p) ∷ inside (place_text S p) ∷ [])

-- The word of the setup file for a kind of thing.
abbrev pub kind_word : ThingKind → List ℕ
kind_word Own = codes "own"
kind_word Borrowed = codes "lent"
kind_word Container = codes "box"

-- The day from which thing x is at its location.
abbrev pub since : Book → ℕ → Option ℤ
since B x = option_map (λ s. s.day) (last_or None (spots_in B x))

-- The codes of the containers that thing x is in, innermost first.
abbrev pub above : Book → ℕ → List ℕ
above B x = codes_text B.museum (chain_in B x)

-- 2001.4.1 own S1-A S2 C2 NULL 2024-05-01; later statements fill in the loans of objects.
abbrev pub thing_values : Book → ℕ → List Cell
thing_values B x =
    text (thing_text B.museum x)
    ∷ text (option_map_or kind_word (kind_of B.museum x) [])
    ∷ text_if (place_text_if B.museum (normal_of B.museum x))
    ∷ text_if (place_text_if B.museum (place_in B x))
    ∷ word_if (above B x)
    ∷ nothing
    ∷ day_if (since B x) ∷ []

abbrev pub thing_row : Book → ℕ → List ℕ
thing_row B x = row (thing_values B x)

-- All places and all things, in the setup's order.
abbrev pub all_place_rows : Museum → List (List ℕ)
all_place_rows S = map (place_row S) (range_with_len 0 (length S.places))

abbrev pub all_thing_rows : Book → List (List ℕ)
all_thing_rows B = map (thing_row B) (range_with_len 0 (length B.museum.things))
