-- Defines the table of the loans.
use Rattle.std.specs.Prelude.{ℕ, ℤ, ◌∷◌, [], Bool, List, Option, Some, codes}
use Rattle.std.specs.Prelude.{filter, length, map}
use Rattle.std.specs.Prelude.{if◌then◌else◌}
use Rattle.std.specs.List.{list_any}
use Rattle.std.specs.Option.{option_map_or}
use Rattle.std.specs.Str.{bytes_eq}
use Rattle.posting_core.specs.Agreements.{Agreement, agreement}
use Rattle.posting_core.specs.Book.{Book, last_day_in, loans_in}
use Rattle.count_core.specs.Reports.{overdue}
use Rattle.reports.specs.Cells.{Cell, day_if, nothing, number, text}
use Rattle.reports.specs.Loans.{state_cell}
use Rattle.reports.specs.Terms.{is_out}
use Rattle.page_core.specs.Pieces.{Piece, page_text}
use Rattle.page_core.specs.Values.{values_row}

-- The loans that are overdue on the day, as the report `overdue` has them. None without a day.
abbrev pub overdue_on : Book → Option ℤ → List (List ℕ)
overdue_on B on = option_map_or (overdue B) on []

-- The loan is one of these.
abbrev pub is_among : List (List ℕ) → List ℕ → Bool
is_among loans loan = list_any (λ other. bytes_eq other loan) loans

-- The word overdue, if the loan is one of these.
abbrev pub overdue_cell : List (List ℕ) → List ℕ → Cell
overdue_cell late loan = if is_among late loan then text (codes "overdue") else nothing

-- The number of the loan's objects that are not yet returned.
abbrev pub count_out : Book → Agreement → ℕ
count_out B t = length (filter (is_out B t) t.objects)

-- LO2024.1 Running MUSEUM-X 2024-05-01 2024-05-31 2 1 overdue
abbrev pub loan_values : Book → List (List ℕ) → Agreement → List Cell
loan_values B late t =
    text t.loan
    ∷ state_cell B t
    ∷ text t.partner
    ∷ day_if (Some t.first)
    ∷ day_if (last_day_in B t.loan)
    ∷ number (length t.objects)
    ∷ number (count_out B t)
    ∷ overdue_cell late t.loan ∷ []

-- The row of the loan with this code.
abbrev pub loan_row : Book → List (List ℕ) → List ℕ → List Piece
loan_row B late loan =
    option_map_or (λ t. values_row (loan_values B late t)) (agreement B.posted loan) []

abbrev pub loan_text : Book → List (List ℕ) → List ℕ → List ℕ
loan_text B late loan = page_text (loan_row B late loan)

-- The rows of all loans, in the order of their agreements.
abbrev pub loan_rows : Book → Option ℤ → List (List Piece)
loan_rows B on = map (loan_row B (overdue_on B on)) (loans_in B)
