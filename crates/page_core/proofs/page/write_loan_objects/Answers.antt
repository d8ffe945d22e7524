use Rattle.std.proofs.Common.{List, subst, ℕ}
use Rattle.posting_core.specs.Book.{loans_in}
use Rattle.page_core.specs.declared.frame.TheConstants.{LOAN_OBJECTS, TABLE_END}
use Rattle.page_core.specs.LoanObjects.{objects_row}
use Rattle.reports.specs.Writes.{Writes}
use Rattle.page_core.proofs.Sections.{section-texts}
use Rattle.page_core.proofs.page.write_loan_objects.Goals as goal

pub returns : goal.returns
returns g c =
    let B = c.args.ledger.now in
    subst (λ (t : List ℕ). Writes (g.W.Write.contents c.args.out.now)
    (g.W.Write.contents c.write_section.new.out) c.write_section.result t)
    (section-texts LOAN_OBJECTS.now TABLE_END.now (objects_row B) (loans_in B))
    c.write_section.ensures
