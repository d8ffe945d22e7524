-- Defines the rows of the reports that list loans, and objects that are due. An example of the
-- plain line is above each.
use Rattle.std.specs.Prelude.{◌∷◌, ◌++◌, ◌==◌, ◌&&◌, [], ℕ, ℤ, Bool, List, None, Option, Some}
use Rattle.std.specs.Prelude.{codes}
use Rattle.std.specs.Prelude.{◌-ℤ◌, false, filter, if◌then◌else◌, int_le, int_lt, length, map, not}
use Rattle.std.specs.Prelude.{option_map, pos, true, unsigned_abs}
use Rattle.std.specs.Fmt.{signed_decimal}
use Rattle.std.specs.List.{flat_map}
use Rattle.std.specs.Option.{option_and_then, option_map_or, option_or}
use Rattle.std.specs.Str.{bytes_eq}
use Rattle.nest_core.specs.Museum.{find_thing}
use Rattle.posting_core.specs.declared.entry.Entry.{Entry}
use Rattle.posting_core.specs.declared.message.Message.{Message}
use Rattle.posting_core.specs.declared.message.Message.TheVariants.{Authorise}
use Rattle.posting_core.specs.declared.stage.LineStage.{LineStage}
use Rattle.posting_core.specs.declared.stage.LoanState.{LoanState}
use Rattle.posting_core.specs.declared.stage.LoanState.TheVariants.{Draft, Authorised, Running}
use Rattle.posting_core.specs.declared.stage.LoanState.TheVariants.{Closed}
use Rattle.posting_core.specs.Agreements.{Agreement, agreement}
use Rattle.posting_core.specs.Book.{Book, last_day_in, line_in, loans_in, state_in}
use Rattle.posting_core.specs.Loans.{is_awaiting, is_done}
use Rattle.posting_core.specs.VerdictNames.{is_applied}
use Rattle.count_core.specs.Reports.{is_out_still}
use Rattle.reports.specs.declared.form.Form.{Form}
use Rattle.reports.specs.declared.question.LoanFilter.{LoanFilter}
use Rattle.reports.specs.declared.reports.dues.Due.{Due}
use Rattle.reports.specs.declared.reports.loans.Phase.{Phase}
use Rattle.reports.specs.declared.reports.loans.Phase.TheVariants.{Awaiting, Out, Back}
use Rattle.reports.specs.Forms.{by_form}
use Rattle.reports.specs.Loans.{stage_word, state_cell}
use Rattle.reports.specs.Cells.{Cell, day_if, json, nothing, number, text, text_if}

abbrev pub is_closed : LoanState → Bool
is_closed Draft = false
is_closed Authorised = false
is_closed Running = false
is_closed Closed = true

-- The loan is not closed: it still has an object to go out, to come in or to go back.
abbrev pub is_open : Book → List ℕ → Bool
is_open B loan = not (option_map_or is_closed (state_in B loan) false)

-- The loan's last day, as extended, is this day or an earlier one.
abbrev pub ends_by : Book → ℤ → List ℕ → Bool
ends_by B day loan = option_map_or (λ last. int_le last day) (last_day_in B loan) false

-- The list has the loan: open loans only, or those that end by a day, if that is asked.
abbrev pub is_listed : Book → LoanFilter → List ℕ → Bool
is_listed B f loan =
    (if f.open then is_open B loan else true)
    && option_map_or (λ day. ends_by B day loan) f.by true

-- The stage of an object under the loan with these terms.
abbrev pub stage_in : Book → Agreement → List ℕ → Option LineStage
stage_in B t object = option_and_then (line_in B t.loan) (find_thing B.museum object)

-- A line at this stage is so far.
abbrev pub reaches : Phase → LineStage → Bool
reaches Awaiting stage = is_awaiting stage
reaches Out stage = is_out_still stage
reaches Back stage = is_done stage

-- The object under the loan is so far.
abbrev pub is_at : Book → Agreement → Phase → List ℕ → Bool
is_at B t phase object = option_map_or (reaches phase) (stage_in B t object) false

-- The number of these objects that are so far.
abbrev pub count_lines : Book → Agreement → Phase → List (List ℕ) → ℕ
count_lines B t phase objects = length (filter (is_at B t phase) objects)

-- The days from the day to the loan's last day, below zero if it has passed. A closed loan has
-- none.
abbrev pub days_left : Book → Option ℤ → List ℕ → Option ℤ
days_left B on loan =
    if is_open B loan
    then option_and_then (λ day. option_map (λ last. last -ℤ day) (last_day_in B loan)) on
    else None

-- The name in a message that authorises the loan.
abbrev pub name_in : Message → List ℕ → Option (List ℕ)
name_in (Authorise name l) loan = if bytes_eq l loan then Some name else None
name_in _ loan = None

-- The name in an entry that authorises the loan. Only an applied entry does.
abbrev pub name_by : Entry → List ℕ → Option (List ℕ)
name_by e loan = if is_applied e.verdict then name_in e.message loan else None

-- The name of who authorised the loan, by looking back through the entries.
abbrev pub authoriser : List Entry → List ℕ → Option (List ℕ)
authoriser [] loan = None
authoriser (e ∷ P) loan = option_or (name_by e loan) (authoriser P loan)

-- The word for this number of things: the singular for one.
abbrev pub noun : ℕ → List ℕ → List ℕ → Cell
noun n one many = text (if n == 1 then one else many)

-- 16 days left; or, once the last day has passed, 5 days over
abbrev pub left_words : Option ℤ → List Cell
left_words None = []
left_words (Some days) =
    number (unsigned_abs days)
    ∷ noun (unsigned_abs days) (codes "day") (codes "days")
    ∷ text (if int_lt days (pos 0) then codes "over" else codes "left") ∷ []

abbrev pub out_word : Option ℤ → Cell
out_word None = text (codes "out")
out_word (Some days) = text (codes "out,")

-- LO2024.2 Running MUSEUM-X 2024-09-01 2024-12-31 3 objects, 2 out, 16 days left
abbrev pub loan_words : Book → Option ℤ → Agreement → List Cell
loan_words B on t =
    (text t.loan
    ∷ state_cell B t
    ∷ text t.partner
    ∷ day_if (Some t.first)
    ∷ day_if (last_day_in B t.loan)
    ∷ number (length t.objects)
    ∷ noun (length t.objects) (codes "object,") (codes "objects,")
    ∷ number (count_lines B t Out t.objects)
    ∷ out_word (days_left B on t.loan) ∷ [])
    ++ left_words (days_left B on t.loan)

-- A number with a sign.
abbrev pub signed_if : Option ℤ → Cell
signed_if None = nothing
signed_if (Some z) = json (signed_decimal z)

abbrev pub loan_values : Book → Option ℤ → Agreement → List Cell
loan_values B on t =
    text t.loan
    ∷ state_cell B t
    ∷ text t.partner
    ∷ day_if (Some t.first)
    ∷ day_if (last_day_in B t.loan)
    ∷ number (length t.objects)
    ∷ number (count_lines B t Awaiting t.objects)
    ∷ number (count_lines B t Out t.objects)
    ∷ number (count_lines B t Back t.objects)
    ∷ day_if on
    ∷ signed_if (days_left B on t.loan)
    ∷ text_if (authoriser B.posted t.loan) ∷ []

-- The row of the loan with this code.
abbrev pub listed_row : Book → Form → Option ℤ → List ℕ → List Cell
listed_row B form on loan =
    option_map_or (λ t. by_form form (loan_words B on t) (loan_values B on t))
    (agreement B.posted loan) []

-- The agreed loans that the list has, in the order of their agreements.
abbrev pub listed_rows : Book → Form → LoanFilter → List (List Cell)
listed_rows B form f = map (listed_row B form f.on) (filter (is_listed B f) (loans_in B))

-- The objects that are due under the loan with these terms.
abbrev pub dues_of : Book → Agreement → List Due
dues_of B t = map (λ o. record { loan = t.loan; object = o }) (filter (is_at B t Out) t.objects)

-- The objects that are due by the day: those still owed under a loan that ends by then, in the
-- order of the agreements and of each loan's objects.
abbrev pub dues : Book → ℤ → List Due
dues B day = flat_map (λ loan. option_map_or (dues_of B) (agreement B.posted loan) [])
    (filter (ends_by B day) (loans_in B))

-- The code of a loan's partner.
abbrev pub partner_of : Book → List ℕ → Option (List ℕ)
partner_of B loan = option_map (λ t. t.partner) (agreement B.posted loan)

-- LO2024.1 2001.4.1 2024-05-31 Away MUSEUM-X
abbrev pub due_row : Book → Due → List Cell
due_row B due =
    text due.loan
    ∷ text due.object
    ∷ day_if (last_day_in B due.loan)
    ∷ text_if (option_map stage_word
    (option_and_then (line_in B due.loan) (find_thing B.museum due.object)))
    ∷ text_if (partner_of B due.loan) ∷ []

abbrev pub due_rows : Book → ℤ → List (List Cell)
due_rows B day = map (due_row B) (dues B day)
