-- Defines the rows of the report on a count list. An example of the plain line is above each.
use Rattle.std.specs.Prelude.{◌∷◌, ◌++◌, ◌+◌, [], ℕ, Bool, List, None, Option, Some, codes, length}
use Rattle.std.specs.Prelude.{map, slice_get}
use Rattle.std.specs.List.{range_with_len}
use Rattle.std.specs.Option.{option_map_or}
use Rattle.nest_core.specs.Museum.{Museum}
use Rattle.posting_core.specs.Book.{Book, place_in}
use Rattle.count_core.specs.declared.answer.CountAnswer.{CountAnswer}
use Rattle.count_core.specs.declared.answer.CountAnswer.TheVariants.{UnknownPlace, Counted}
use Rattle.count_core.specs.declared.answer.CountAnswer.TheVariants.{UnknownObject, Again, Unplaced}
use Rattle.count_core.specs.declared.answer.CountAnswer.TheVariants.{Found, Elsewhere}
use Rattle.count_core.specs.declared.answer.MissingObject.{MissingObject}
use Rattle.count_core.specs.declared.count_row.CountRow.{CountRow}
use Rattle.count_core.specs.Counts.{answer_at}
use Rattle.count_core.specs.Sealed.{missing_unless_sealed}
use Rattle.reports.specs.declared.form.Form.{Form}
use Rattle.reports.specs.Forms.{by_form}
use Rattle.reports.specs.Cells.{Cell, nothing, number, text, text_if}
use Rattle.reports.specs.Texts.{place_text, place_text_if, thing_text}

abbrev pub answer_word : CountAnswer → List ℕ
answer_word UnknownPlace = codes "UnknownPlace"
answer_word Counted = codes "Counted"
answer_word UnknownObject = codes "UnknownObject"
answer_word Again = codes "Again"
answer_word Unplaced = codes "Unplaced"
answer_word Found = codes "Found"
answer_word (Elsewhere p) = codes "Elsewhere"

-- The place on record of a thing that is elsewhere.
abbrev pub on_record : Museum → CountAnswer → Option (List ℕ)
on_record S (Elsewhere p) = Some (place_text S p)
on_record S _ = None

-- row 2 Elsewhere S2
abbrev pub answer_row : Museum → Form → ℕ → CountRow → CountAnswer → List Cell
answer_row S form n row answer = by_form form
    (text (codes "row") ∷ number n ∷ text (answer_word answer)
    ∷ text_if (on_record S answer) ∷ [])
    (number n ∷ text row.place ∷ text_if row.object ∷ text (answer_word answer)
    ∷ text_if (on_record S answer) ∷ [])

-- The row for row i of the list, from 0.
abbrev pub answer_row_at : Book → Form → List CountRow → ℕ → List Cell
answer_row_at B form rows i =
    option_map_or (λ row. answer_row B.museum form (i + 1) row (answer_at B rows i))
    (slice_get rows i) []

-- missing S1 2001.4.3
abbrev pub missing_row : Book → Form → MissingObject → List Cell
missing_row B form missed = by_form form
    (text (codes "missing") ∷ text (place_text B.museum missed.place)
    ∷ text (thing_text B.museum missed.object) ∷ [])
    (nothing ∷ text (place_text B.museum missed.place) ∷ text (thing_text B.museum missed.object)
    ∷ text (codes "Missing")
    ∷ text_if (place_text_if B.museum (place_in B missed.object)) ∷ [])

-- The answer to each row of the list, and then each object that the list misses, by whether
-- containers count as sealed.
abbrev pub count_rows : Book → Form → Bool → List CountRow → List (List Cell)
count_rows B form sealed rows =
    map (answer_row_at B form rows) (range_with_len 0 (length rows))
    ++ map (missing_row B form) (missing_unless_sealed B sealed rows)

-- The same rows for these answers and these missing objects.
abbrev pub found_row_at : Museum → Form → List CountRow → List CountAnswer → ℕ → List Cell
found_row_at S form rows answers i = option_map_or
    (λ row. option_map_or (answer_row S form (i + 1) row) (slice_get answers i) [])
    (slice_get rows i) []

abbrev pub found_rows : Book → Form → List CountRow → List CountAnswer → List MissingObject
    → List (List Cell)
found_rows B form rows answers missed =
    map (found_row_at B.museum form rows answers) (range_with_len 0 (length rows))
    ++ map (missing_row B form) missed
