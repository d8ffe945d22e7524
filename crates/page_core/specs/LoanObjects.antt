-- Defines the table of the objects of all loans.
use Rattle.std.specs.Prelude.{◌∷◌, [], ℕ, List, map}
use Rattle.std.specs.List.{flat_map}
use Rattle.std.specs.Option.{option_map_or}
use Rattle.posting_core.specs.Agreements.{Agreement, agreement}
use Rattle.posting_core.specs.Book.{Book, loans_in}
use Rattle.reports.specs.Cells.{Cell, text}
use Rattle.reports.specs.Loans.{stage_cell}
use Rattle.page_core.specs.Pieces.{Piece, page_text}
use Rattle.page_core.specs.Values.{values_row}

-- LO2024.1 2001.4.1 Away: an object of a loan, with the stage that the report `loan` has.
abbrev pub object_values : Book → Agreement → List ℕ → List Cell
object_values B t object = text t.loan ∷ text object ∷ stage_cell B t object ∷ []

abbrev pub object_row : Book → Agreement → List ℕ → List Piece
object_row B t object = values_row (object_values B t object)

-- The objects of the loan with these terms, in the order of its agreement.
abbrev pub terms_row : Book → Agreement → List Piece
terms_row B t = flat_map (object_row B t) t.objects

-- The objects of the loan with this code.
abbrev pub objects_row : Book → List ℕ → List Piece
objects_row B loan = option_map_or (terms_row B) (agreement B.posted loan) []

abbrev pub objects_text : Book → List ℕ → List ℕ
objects_text B loan = page_text (objects_row B loan)

-- Those of all loans, in the order of their agreements.
abbrev pub object_rows : Book → List (List Piece)
object_rows B = map (objects_row B) (loans_in B)
