-- Defines the museum in numbers, with its seal.
use Rattle.std.specs.Prelude.{◌∷◌, ◌++◌, ◌-◌, [], ℕ, ℤ, List, None, Option, Some, codes, filter}
use Rattle.std.specs.Prelude.{length, not}
use Rattle.std.specs.List.{range_with_len}
use Rattle.codes_core.specs.Day.{day_text}
use Rattle.nest_core.specs.Museum.{Museum, is_container}
use Rattle.posting_core.specs.Book.{Book, loans_in}
use Rattle.reports.specs.LoanLists.{is_open}
use Rattle.page_core.specs.Pieces.{Piece}
use Rattle.page_core.specs.Pieces.Piece.{markup, number, text}
use Rattle.seal_core.specs.Printing.{seal_of}
use Rattle.seal_core.specs.Seals.{seal_text}
use Rattle.seal_core.specs.declared.seal.Seal.{Seal}

-- The number of objects in the setup. Its other things are containers.
abbrev pub objects_in : Museum → ℕ
objects_in S =
    length (filter (λ x. not (is_container S x)) (range_with_len 0 (length S.things)))

-- The number of loans that are not closed.
abbrev pub open_loans : Book → ℕ
open_loans B = length (filter (is_open B) (loans_in B))

-- How many places, containers and objects the setup has.
abbrev pub setup_row : Museum → List Piece
setup_row S =
    markup (codes "<div><dt>Places</dt><dd>")
    ∷ number (length S.places)
    ∷ markup (codes "</dd></div>\n<div><dt>Containers</dt><dd>")
    ∷ number (length S.things - objects_in S)
    ∷ markup (codes "</dd></div>\n<div><dt>Objects</dt><dd>")
    ∷ number (objects_in S)
    ∷ markup (codes "</dd></div>\n") ∷ []

-- How many loans are agreed, how many of them are open, and the number of the last entry.
abbrev pub entries_row : Book → List Piece
entries_row B =
    markup (codes "<div><dt>Loans</dt><dd>")
    ∷ number (length (loans_in B))
    ∷ markup (codes "</dd></div>\n<div><dt>Open loans</dt><dd>")
    ∷ number (open_loans B)
    ∷ markup (codes "</dd></div>\n<div><dt>Last entry</dt><dd>")
    ∷ number (length B.posted)
    ∷ markup (codes "</dd></div>\n") ∷ []

-- The day on which loans are overdue, if one is given.
abbrev pub day_row : Option ℤ → List Piece
day_row None = []
day_row (Some day) =
    markup (codes "<div><dt>Overdue on</dt><dd>")
    ∷ text (day_text day)
    ∷ markup (codes "</dd></div>\n") ∷ []

-- All of these.
abbrev pub numbers_row : Book → Option ℤ → List Piece
numbers_row B on = setup_row B.museum ++ (entries_row B ++ day_row on)

-- The seal of all entries.
abbrev pub whole_seal : Book → Seal
whole_seal B = seal_of B (length B.posted)

-- Its text, as the command `seal` prints it.
abbrev pub seal_row : Book → List Piece
seal_row B =
    markup (codes "<div><dt>Seal</dt><dd class=\"seal\">")
    ∷ text (seal_text (whole_seal B))
    ∷ markup (codes "</dd></div>\n") ∷ []
