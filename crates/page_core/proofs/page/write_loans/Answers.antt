use Rattle.std.proofs.Common.{List, ap, subst, ℕ, ◌++◌, ◌∙◌}
use Rattle.posting_core.specs.Book.{loans_in}
use Rattle.page_core.specs.Loans.{loan_row, overdue_on}
use Rattle.page_core.specs.declared.frame.TheConstants.{LOANS, TABLE_END}
use Rattle.reports.specs.Writes.{Writes, rows_text}
use Rattle.page_core.proofs.Sections.{section-texts}
use Rattle.page_core.proofs.page.write_loans.Goals as goal

pub returns : goal.returns
returns g c =
    let B = c.args.ledger.now in
    subst (λ (t : List ℕ). Writes (g.W.Write.contents c.args.out.now)
    (g.W.Write.contents c.write_section.new.out) c.write_section.result t)
    (ap (λ texts. LOANS.now ++ (rows_text texts ++ TABLE_END.now)) c.in_ok-rows.ensures
    ∙ section-texts LOANS.now TABLE_END.now (loan_row B (overdue_on B c.args.on))
    (loans_in B)) c.write_section.ensures
