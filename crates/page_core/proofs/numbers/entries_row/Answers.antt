use Rattle.std.proofs.Common.{List, ap, length, ◌++◌, ◌∙◌, ℕ}
use Rattle.std.specs.Prelude.{codes, decimal}
use Rattle.posting_core.specs.Book.{loans_in}
use Rattle.page_core.specs.Numbers.{open_loans}
use Rattle.page_core.proofs.numbers.entries_row.Goals as goal

abbrev row : ℕ → ℕ → ℕ → List ℕ
row loans still last = codes "<div><dt>Loans</dt><dd>"
    ++ (decimal loans ++ (codes "</dd></div>\n<div><dt>Open loans</dt><dd>"
    ++ (decimal still ++ (codes "</dd></div>\n<div><dt>Last entry</dt><dd>"
    ++ (decimal last ++ codes "</dd></div>\n")))))

pub returns : goal.returns
returns c =
    let B = c.args.ledger.now in
    c.in_ok-format.ensures.ok
    ∙ (ap (λ n. row n c.open_loans-open.result c.entry_count-last.result)
    c.loan_count-loans.ensures
    ∙ (ap (λ n. row (length (loans_in B)) n c.entry_count-last.result)
    c.open_loans-open.ensures
    ∙ ap (row (length (loans_in B)) (open_loans B)) c.entry_count-last.ensures.count))
