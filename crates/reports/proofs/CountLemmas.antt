-- The rows of the report on a count list, by number.
use Rattle.std.proofs.Common.{◌≡◌, ℕ, ◌+◌, ◌<◌, ◌++◌, All, Bool, List, [], length, map, Some, ap}
use Rattle.std.proofs.Common.{sym, subst, ◌∙◌, arith}
use Rattle.std.specs.List.{range_with_len, slice_get}
use Rattle.std.specs.Option.{option_map_or}
use Rattle.std.proofs.lemmas.List.{length-append, length-map}
use Rattle.std.proofs.lemmas.List.FromFn.{length-map-range_with_len}
use Rattle.std.proofs.lemmas.Option.{get_or_from_slice_get, slice_get_within}
use Rattle.nest_core.specs.Museum.{Museum}
use Rattle.posting_core.specs.Book.{Book}
use Rattle.count_core.specs.declared.answer.CountAnswer.{CountAnswer}
use Rattle.count_core.specs.declared.answer.CountAnswer.TheVariants.{Elsewhere}
use Rattle.count_core.specs.declared.answer.MissingObject.{MissingObject}
use Rattle.count_core.specs.declared.count_row.CountRow.{CountRow}
use Rattle.count_core.specs.Counts.{IsAnswerIn, answer_at, answers}
use Rattle.count_core.specs.Sealed.{missing_unless_sealed}
use Rattle.reports.specs.declared.form.Form.{Form}
use Rattle.reports.specs.Cells.{Cell}
use Rattle.reports.specs.CountRows.{answer_row, answer_row_at, count_rows, found_row_at, found_rows}
use Rattle.reports.specs.CountRows.{missing_row}
use Rattle.reports.proofs.NumberedRows.{behind_at, each_at, front_at, numbered, numbers_alike}

pub count_len : (B : Book) (form : Form) (rows : List CountRow) (found : List CountAnswer)
    (missed : List MissingObject)
    → length (found_rows B form rows found missed) ≡ length rows + length missed
count_len B form rows found missed =
    length-append (map (found_row_at B.museum form rows found) (range_with_len 0 (length rows)))
    (map (missing_row B form) missed)
    ∙ (ap (λ n. n + length (map (missing_row B form) missed))
    (length-map-range_with_len (found_row_at B.museum form rows found) 0 (length rows))
    ∙ ap (λ n. length rows + n) (length-map missed (missing_row B form)))

pub answered_at : (B : Book) (form : Form) (rows : List CountRow) (found : List CountAnswer)
    (missed : List MissingObject) (i : ℕ) (row : CountRow) (a : CountAnswer)
    → slice_get rows i ≡ Some row → slice_get found i ≡ Some a → slice_get
    (found_rows B form rows found missed) i ≡ Some (answer_row B.museum form (i + 1) row a)
answered_at B form rows found missed i row a here its =
    let within : i < length rows = slice_get_within rows i row here in
    let front
    : i < length (map (found_row_at B.museum form rows found) (range_with_len 0 (length rows))) =
    subst (λ n. i < n) (sym
    (length-map-range_with_len (found_row_at B.museum form rows found) 0 (length rows))) within in
    front_at (map (found_row_at B.museum form rows found) (range_with_len 0 (length rows)))
    (map (missing_row B form) missed) i front
    ∙ (numbered (found_row_at B.museum form rows found) (length rows) i within
    ∙ ap Some (ap (λ o. option_map_or (λ (r : CountRow).
    option_map_or (answer_row B.museum form (i + 1) r) (slice_get found i) []) o []) here
    ∙ ap (λ o. option_map_or (answer_row B.museum form (i + 1) row) o []) its))

pub missed_at : (B : Book) (form : Form) (rows : List CountRow) (found : List CountAnswer)
    (missed : List MissingObject) (i j : ℕ) (m : MissingObject)
    → i ≡ length rows + j → slice_get missed j ≡ Some m
    → slice_get (found_rows B form rows found missed) i ≡ Some (missing_row B form m)
missed_at B form rows found missed i j m is here =
    let front : List (List Cell) =
    map (found_row_at B.museum form rows found) (range_with_len 0 (length rows)) in
    let many : length front ≡ length rows =
    length-map-range_with_len (found_row_at B.museum form rows found) 0 (length rows) in
    ap (slice_get (found_rows B form rows found missed)) (is ∙ ap (λ n. n + j) (sym many))
    ∙ (behind_at front (map (missing_row B form) missed) j
    ∙ each_at (missing_row B form) missed j m here)

pub all_found : (B : Book) (form : Form) (sealed : Bool) (rows : List CountRow)
    (found : List CountAnswer) (missed : List MissingObject) → found ≡ answers B rows
    → missed ≡ missing_unless_sealed B sealed rows
    → found_rows B form rows found missed ≡ count_rows B form sealed rows
all_found B form sealed rows found missed f m =
    ap (λ a. found_rows B form rows a missed) f
    ∙ (ap (λ a. map (found_row_at B.museum form rows (answers B rows))
    (range_with_len 0 (length rows)) ++ map (missing_row B form) a) m
    ∙ ap (λ front. front ++ map (missing_row B form) (missing_unless_sealed B sealed rows))
    (numbers_alike (found_row_at B.museum form rows (answers B rows)) (answer_row_at B form rows) 0
    (length rows)
    (λ i h. ap (λ o. option_map_or (λ (r : CountRow).
    option_map_or (answer_row B.museum form (i + 1) r) o []) (slice_get rows i) [])
    (numbered (answer_at B rows) (length rows) i (omega (arith, h))))))

pub as_many : (B : Book) (rows : List CountRow) (found : List CountAnswer) → found ≡ answers B rows
    → length found ≡ length rows
as_many B rows found f = ap length f ∙ length-map-range_with_len (answer_at B rows) 0 (length rows)

pub known_place : (S : Museum) (found : List CountAnswer) → All (IsAnswerIn S) found → (i p : ℕ)
    → slice_get found i ≡ Some (Elsewhere p) → p < length S.places
known_place S found all i p here =
    subst (IsAnswerIn S) (get_or_from_slice_get found i (Elsewhere p) (Elsewhere p) here)
    (all i (Elsewhere p) (slice_get_within found i (Elsewhere p) here))
