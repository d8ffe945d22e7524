-- Defines the rows of the reports on loans. An example of the plain line is above each.
use Rattle.std.specs.Prelude.{◌∷◌, ◌++◌, [], ℕ, ℤ, List, Some, codes, map, option_map}
use Rattle.std.specs.Option.{option_and_then, option_map_or}
use Rattle.nest_core.specs.Museum.{find_thing}
use Rattle.posting_core.specs.declared.stage.LineStage.{LineStage}
use Rattle.posting_core.specs.declared.stage.LineStage.TheVariants.{Awaiting, Away, Back, Here}
use Rattle.posting_core.specs.declared.stage.LineStage.TheVariants.{GivenBack}
use Rattle.posting_core.specs.declared.stage.LoanState.{LoanState}
use Rattle.posting_core.specs.declared.stage.LoanState.TheVariants.{Draft, Authorised, Running}
use Rattle.posting_core.specs.declared.stage.LoanState.TheVariants.{Closed}
use Rattle.posting_core.specs.Agreements.{Agreement, agreement}
use Rattle.posting_core.specs.Book.{Book, last_day_in, line_in, state_in}
use Rattle.count_core.specs.Reports.{overdue}
use Rattle.reports.specs.declared.form.Form.{Form}
use Rattle.reports.specs.declared.form.Form.TheVariants.{Plain, Csv, Json, Table}
use Rattle.reports.specs.Forms.{by_form}
use Rattle.reports.specs.Cells.{Cell, day_if, nothing, text, text_if}

-- LO2024.1 2024-05-31
abbrev pub overdue_row : Book → List ℕ → List Cell
overdue_row B loan = text loan ∷ day_if (last_day_in B loan) ∷ []

-- The loans that are overdue on the day, in the order of their agreements.
abbrev pub overdue_rows : Book → ℤ → List (List Cell)
overdue_rows B day = map (overdue_row B) (overdue B day)

abbrev pub stage_word : LineStage → List ℕ
stage_word Awaiting = codes "Awaiting"
stage_word Away = codes "Away"
stage_word Back = codes "Back"
stage_word Here = codes "Here"
stage_word GivenBack = codes "GivenBack"

abbrev pub state_word : LoanState → List ℕ
state_word Draft = codes "Draft"
state_word Authorised = codes "Authorised"
state_word Running = codes "Running"
state_word Closed = codes "Closed"

-- LO2024.1 unknown
abbrev pub unknown_row : Form → List ℕ → List Cell
unknown_row form loan = by_form form
    (text loan ∷ text (codes "unknown") ∷ [])
    (text loan ∷ text (codes "unknown") ∷ nothing ∷ nothing ∷ nothing ∷ nothing ∷ nothing ∷ [])

abbrev pub state_cell : Book → Agreement → Cell
state_cell B t = text_if (option_map state_word (state_in B t.loan))

-- LO2024.1 Running with MUSEUM-X from 2024-05-01 to 2024-05-31
abbrev pub terms_words : Book → Agreement → List Cell
terms_words B t = text t.loan
    ∷ state_cell B t
    ∷ text (codes "with")
    ∷ text t.partner
    ∷ text (codes "from")
    ∷ day_if (Some t.first)
    ∷ text (codes "to")
    ∷ day_if (last_day_in B t.loan) ∷ []

-- In the plain form the terms have a line of their own; in the others each row has them.
abbrev pub terms_rows : Form → List Cell → List (List Cell)
terms_rows Plain words = words ∷ []
terms_rows Csv words = []
terms_rows Json words = []
terms_rows Table words = []

abbrev pub stage_cell : Book → Agreement → List ℕ → Cell
stage_cell B t object =
    text_if (option_map stage_word
    (option_and_then (line_in B t.loan) (find_thing B.museum object)))

-- 2001.4.1 Away
abbrev pub object_row : Book → Form → Agreement → List ℕ → List Cell
object_row B form t object = by_form form
    (text object ∷ stage_cell B t object ∷ [])
    (text t.loan
    ∷ state_cell B t
    ∷ text t.partner
    ∷ day_if (Some t.first)
    ∷ day_if (last_day_in B t.loan)
    ∷ text object
    ∷ stage_cell B t object ∷ [])

abbrev pub agreed_rows : Book → Form → Agreement → List (List Cell)
agreed_rows B form t = terms_rows form (terms_words B t) ++ map (object_row B form t) t.objects

-- The loan with this code: its terms and objects, or that it isn't agreed.
abbrev pub loan_rows : Book → Form → List ℕ → List (List Cell)
loan_rows B form loan =
    option_map_or (agreed_rows B form) (agreement B.posted loan) (unknown_row form loan ∷ [])
