-- Defines the rows of the loans and of their objects.
use Rattle.std.specs.Prelude.{ℕ, ◌∷◌, ◌++◌, [], List, Some, codes, if◌then◌else◌, map}
use Rattle.std.specs.List.{flat_map}
use Rattle.std.specs.Option.{option_map_or}
use Rattle.posting_core.specs.Agreements.{Agreement, agreement}
use Rattle.posting_core.specs.Book.{Book, last_day_in, loans_in}
use Rattle.reports.specs.Cells.{Cell, day_if, nothing, text}
use Rattle.reports.specs.Loans.{stage_cell, state_cell}
use Rattle.reports.specs.Terms.{is_out}
use Rattle.export_core.specs.Literals.{quoted}
use Rattle.export_core.specs.Statements.{row}

-- LO2024.1 MUSEUM-X 2024-05-01 2024-05-31 Running: the last day is that of the last extension.
abbrev pub loan_values : Book → Agreement → List Cell
loan_values B t =
    text t.loan
    ∷ text t.partner
    ∷ day_if (Some t.first)
    ∷ day_if (last_day_in B t.loan)
    ∷ state_cell B t ∷ []

-- The row of the loan with this code, if it is agreed.
abbrev pub loan_row : Book → List ℕ → List (List ℕ)
loan_row B loan =
    option_map_or (λ t. row (loan_values B t) ∷ []) (agreement B.posted loan) []

-- LO2024.1 2001.4.1 Away NULL NULL; later statements fill in the entries.
abbrev pub object_values : Book → Agreement → List ℕ → List Cell
object_values B t object =
    text t.loan ∷ text object ∷ stage_cell B t object ∷ nothing ∷ nothing ∷ []

abbrev pub object_row : Book → Agreement → List ℕ → List ℕ
object_row B t object = row (object_values B t object)

-- The rows of the objects of the loan with this code, in the order of its agreement.
abbrev pub object_rows : Book → List ℕ → List (List ℕ)
object_rows B loan =
    option_map_or (λ t. map (object_row B t) t.objects) (agreement B.posted loan) []

-- UPDATE thing SET loan='LO2024.1' WHERE code='2001.4.1';
abbrev pub lent_text : List ℕ → List ℕ → List ℕ
lent_text loan object =
    codes "UPDATE thing SET loan="
    ++ (quoted loan
    ++ (codes " WHERE code="
    ++ (quoted object
    ++ codes ";\n")))

-- The loan of an object that has left or arrived under it, and has not gone back.
abbrev pub lent_if : Book → Agreement → List ℕ → List ℕ
lent_if B t object = if is_out B t object then lent_text t.loan object else []

-- The statements that set the loan of each object that is out under this one.
abbrev pub lent_texts : Book → List ℕ → List ℕ
lent_texts B loan =
    option_map_or (λ t. flat_map (lent_if B t) t.objects) (agreement B.posted loan) []

-- All loans, all their objects, and all things that are out, in the order of the agreements.
abbrev pub all_loan_rows : Book → List (List ℕ)
all_loan_rows B = flat_map (loan_row B) (loans_in B)

abbrev pub all_object_rows : Book → List (List ℕ)
all_object_rows B = flat_map (object_rows B) (loans_in B)

abbrev pub all_lent : Book → List ℕ
all_lent B = flat_map (lent_texts B) (loans_in B)
