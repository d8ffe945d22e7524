-- Defines the rows of the reports on where things are and were. An example of the plain line is
-- above each.
use Rattle.std.specs.Prelude.{◌∷◌, ◌==◌, [], ℕ, List, None, Option, Some, codes, filter, map, not}
use Rattle.std.specs.Option.{option_map_or}
use Rattle.codes_core.specs.Day.{day_text}
use Rattle.nest_core.specs.Museum.{Museum, find_thing, normal_of}
use Rattle.posting_core.specs.declared.entry.Spot.{Spot}
use Rattle.posting_core.specs.History.{carried_at}
use Rattle.posting_core.specs.Book.{Book, chain_in, place_in, spots_in}
use Rattle.count_core.specs.declared.answer.AwayObject.{AwayObject}
use Rattle.count_core.specs.Reports.{away, in_place}
use Rattle.reports.specs.declared.form.Form.{Form}
use Rattle.reports.specs.Forms.{by_form}
use Rattle.reports.specs.Cells.{Cell, in_if, number, or_dash, text, text_if, texts}
use Rattle.reports.specs.Texts.{place_text, place_text_if, thing_text}

-- 2001.4.1 at S2 in C2 C1
abbrev pub place_row : Form → List ℕ → List ℕ → Option (List ℕ) → List (List ℕ) → List Cell
place_row form thing state place containers = by_form form
    (text thing ∷ text state ∷ text_if place ∷ in_if containers ∷ texts containers ∷ [])
    (text thing ∷ text state ∷ text_if place ∷ texts containers ∷ [])

-- The codes of the containers that thing x is in, innermost first.
abbrev pub container_texts : Book → ℕ → List (List ℕ)
container_texts B x = map (thing_text B.museum) (chain_in B x)

-- Thing x, at this place, or not placed yet.
abbrev pub placed_row : Book → Form → List ℕ → ℕ → Option ℕ → List Cell
placed_row B form code x None = place_row form code (codes "unplaced") None []
placed_row B form code x (Some p) =
    place_row form code (codes "at") (Some (place_text B.museum p)) (container_texts B x)

-- The thing with this code, or that there is none.
abbrev pub where_row : Book → Form → List ℕ → List Cell
where_row B form code =
    option_map_or (λ x. placed_row B form code x (place_in B x)) (find_thing B.museum code)
    (place_row form code (codes "unknown") None [])

-- 4 2024-05-01 S1
abbrev pub spot_row : Museum → Spot → List Cell
spot_row S spot = number spot.entry
    ∷ text (day_text spot.day)
    ∷ text (place_text S spot.place) ∷ []

-- The spots of the thing with this code, oldest first.
abbrev pub history_rows : Book → List ℕ → List (List Cell)
history_rows B code =
    option_map_or (λ x. map (spot_row B.museum) (spots_in B x)) (find_thing B.museum code) []

-- 2001.4.1 S2 normal S1-A
abbrev pub away_row : Museum → Form → AwayObject → List Cell
away_row S form away = by_form form
    (text (thing_text S away.object)
    ∷ or_dash (place_text_if S away.place)
    ∷ text (codes "normal")
    ∷ or_dash (place_text_if S (normal_of S away.object)) ∷ [])
    (text (thing_text S away.object)
    ∷ text_if (place_text_if S away.place)
    ∷ text_if (place_text_if S (normal_of S away.object)) ∷ [])

-- The museum's own objects that are away, in the setup's order.
abbrev pub away_rows : Book → Form → List (List Cell)
away_rows B form = map (away_row B.museum form) (away B)

-- 2001.4.1 S1-A
abbrev pub at_row : Book → ℕ → List Cell
at_row B x = text (thing_text B.museum x) ∷ text_if (place_text_if B.museum (place_in B x)) ∷ []

-- The things at the place with this code, in the setup's order.
abbrev pub at_rows : Book → List ℕ → List (List Cell)
at_rows B code = map (at_row B) (in_place B code)

-- 2001.4.1 in C2 C1
abbrev pub content_row : Book → ℕ → List Cell
content_row B x = text (thing_text B.museum x)
    ∷ text (codes "in")
    ∷ texts (container_texts B x) ∷ []

-- The things in container c, at any depth, in the setup's order: what it carries except itself.
abbrev pub things_in : Book → ℕ → List ℕ
things_in B c = filter (λ x. not (x == c)) (carried_at B.museum B.posted c)

-- C9 unknown
abbrev pub unknown_container : List ℕ → List Cell
unknown_container code = text code ∷ text (codes "unknown") ∷ texts [] ∷ []

-- The things in the container with this code, or that there is none.
abbrev pub content_rows : Book → List ℕ → List (List Cell)
content_rows B code =
    option_map_or (λ c. map (content_row B) (things_in B c)) (find_thing B.museum code)
    (unknown_container code ∷ [])
