-- Defines the rows of the tree: the pieces of each of its lines.
use Rattle.std.specs.Prelude.{ℕ, ◌∷◌, [], ◌<◌, ◌&&◌, Bool, List, None, Some, codes}
use Rattle.std.specs.Prelude.{filter, length, map}
use Rattle.std.specs.Prelude.{if◌then◌else◌, not}
use Rattle.std.specs.List.{range_with_len}
use Rattle.nest_core.specs.Museum.{Museum, is_container}
use Rattle.nest_core.specs.Nest.{is_same_place}
use Rattle.posting_core.specs.Book.{Book, place_in}
use Rattle.posting_core.specs.History.{carried_at}
use Rattle.reports.specs.Texts.{place_text, thing_text}
use Rattle.page_core.specs.Pieces.{Piece, page_text}
use Rattle.page_core.specs.Pieces.Piece.{markup, number, text}
use Rattle.page_core.specs.declared.lines.Line.{Line}
use Rattle.page_core.specs.declared.lines.Line.TheVariants.{PlaceBegin, PlaceEnd, ThingBegin}
use Rattle.page_core.specs.declared.lines.Line.TheVariants.{ThingEnd}
use Rattle.page_core.specs.Tree.{lines_at, things_of, tree_lines}

-- The number of a line's place or thing, and what it is below in this setup.

abbrev pub line_number : Line → ℕ
line_number (PlaceBegin p) = p
line_number PlaceEnd = 0
line_number (ThingBegin x) = x
line_number (ThingEnd x) = x

abbrev pub line_bound : Museum → Line → ℕ
line_bound S (PlaceBegin p) = length S.places
line_bound S PlaceEnd = 1
line_bound S (ThingBegin x) = length S.things
line_bound S (ThingEnd x) = length S.things

-- The place or the thing is in the setup.
abbrev pub IsLineIn : Museum → Line → Type 0
IsLineIn S line = line_number line < line_bound S line

-- Thing x is an object, and its place is p.
abbrev pub is_object_at : Book → ℕ → ℕ → Bool
is_object_at B p x = not (is_container B.museum x) && is_same_place (place_in B x) (Some p)

-- The number of objects at place p, also of those in containers.
abbrev pub objects_at : Book → ℕ → ℕ
objects_at B p = length (filter (is_object_at B p) (things_of B))

-- The number of objects at each place, among the first n things.
abbrev pub counts_among : Book → ℕ → List ℕ
counts_among B n =
    map (λ p. length (filter (is_object_at B p) (range_with_len 0 n)))
    (range_with_len 0 (length B.museum.places))

-- The number of objects in container c, at any depth.
abbrev pub objects_in : Book → ℕ → ℕ
objects_in B c =
    length (filter (λ x. not (is_container B.museum x)) (carried_at B.museum B.posted c))

-- S1-A, with the number of objects there, before everything at the place.
abbrev pub place_row : Book → ℕ → List Piece
place_row B p =
    markup (codes "<li><details><summary>")
    ∷ text (place_text B.museum p)
    ∷ markup (codes " <small>")
    ∷ number (objects_at B p)
    ∷ markup (codes "</small></summary><ul>\n") ∷ []

-- C2, with the number of objects in it, before everything in it.
abbrev pub container_row : Book → ℕ → List Piece
container_row B c =
    markup (codes "<li><details><summary>")
    ∷ text (thing_text B.museum c)
    ∷ markup (codes " <small>")
    ∷ number (objects_in B c)
    ∷ markup (codes "</small></summary><ul>\n") ∷ []

-- 2001.4.1
abbrev pub object_row : Book → ℕ → List Piece
object_row B x = markup (codes "<li>") ∷ text (thing_text B.museum x) ∷ []

-- The end of a place or of a container.
abbrev pub node_end : List Piece
node_end = markup (codes "</ul></details></li>\n") ∷ []

abbrev pub object_end : List Piece
object_end = markup (codes "</li>\n") ∷ []

-- The row of a line.
abbrev pub line_row : Book → Line → List Piece
line_row B (PlaceBegin p) = place_row B p
line_row B PlaceEnd = node_end
line_row B (ThingBegin x) = if is_container B.museum x then container_row B x else object_row B x
line_row B (ThingEnd x) = if is_container B.museum x then node_end else object_end

abbrev pub line_text : Book → Line → List ℕ
line_text B line = page_text (line_row B line)

-- The rows of all lines.
abbrev pub tree_rows : Book → List (List Piece)
tree_rows B = map (line_row B) (tree_lines B)

-- The rows of the things that were never placed.
abbrev pub unplaced_rows : Book → List (List Piece)
unplaced_rows B = map (line_row B) (lines_at B None)
