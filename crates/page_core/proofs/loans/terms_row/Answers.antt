use Rattle.std.proofs.Common.{◌≡◌, ◌∙◌, ◌∷◌, [], ℕ, IfOk, List, Some, ap, length, option_map}
use Rattle.std.proofs.Common.{string_bytes, subst}
use Rattle.reports.specs.Cells.{Cell, day_if, number, text, text_if}
use Rattle.reports.specs.Loans.{state_cell, state_word}
use Rattle.posting_core.specs.Book.{last_day_in}
use Rattle.page_core.specs.Pieces.{page_text}
use Rattle.page_core.specs.Loans.{loan_values}
use Rattle.reports.specs.Terms.{agreement_with}
use Rattle.reports.specs.Values.{value_of}
use Rattle.page_core.specs.Values.{values_row}
use Rattle.reports.specs.declared.sections.terms.Terms.{Terms}
use Rattle.page_core.proofs.loans.terms_row.Goals as goal

-- the values, by those that the ledger answers
abbrev row : Terms → Cell → Cell → ℕ → Cell → List Cell
row t state last out late =
    text t.loan ∷ state ∷ text t.partner ∷ day_if (Some t.first) ∷ last
    ∷ number (length t.objects.now) ∷ number out ∷ late ∷ []

pub returns : goal.returns
returns c =
    let B = c.args.ledger.now in
    let t = c.args.terms.now in
    let late = c.args.overdue.now in
    let state : value_of c.state_if.result ≡ state_cell B (agreement_with t) =
    c.state_if.ensures ∙ ap (λ s. text_if (option_map state_word s)) c.loan_state.ensures.state in
    let last : value_of c.day_if.result ≡ day_if (last_day_in B t.loan) =
    c.day_if.ensures ∙ ap day_if c.last_day.ensures.day in
    let same : row t (value_of c.state_if.result) (value_of c.day_if.result) c.count_out.result
    (value_of c.overdue_if.result) ≡ loan_values B late (agreement_with t) =
    cc (state, last, c.count_out.ensures, c.overdue_if.ensures) in
    subst (λ (values : List Cell). IfOk c.values_row.result (λ row. string_bytes row
    ≡ page_text (values_row values))) same c.values_row.ensures
