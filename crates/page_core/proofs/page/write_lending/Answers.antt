use Rattle.std.proofs.Common.{◌++◌}
use Rattle.page_core.specs.Pages.{away, loan_objects, loans}
use Rattle.page_core.proofs.Sections.{first_fails, later_fails, then_rest}
use Rattle.reports.proofs.WrittenSections.{writes_err}
use Rattle.page_core.proofs.page.write_lending.Goals as goal

pub returns-in_err-write_loans : goal.returns-in_err-write_loans
returns-in_err-write_loans g c =
    let B = c.args.ledger.now in
    writes_err _ _ c.from_residual.result _ _ c.from_residual.ensures.1
    (first_fails _ _ (loans B c.args.on.now) (loan_objects B ++ away B)
    c.in_err-write_loans.ensures)

pub returns-in_err-write_loan_objects : goal.returns-in_err-write_loan_objects
returns-in_err-write_loan_objects g c =
    let B = c.args.ledger.now in
    writes_err _ _ c.from_residual-in_err-write_loan_objects.result _ _
    c.from_residual-in_err-write_loan_objects.ensures.1
    (later_fails _ _ _ (loans B c.args.on.now) (loan_objects B ++ away B)
    c.in_ok-write_loans.ensures
    (first_fails _ _ (loan_objects B) (away B) c.in_err-write_loan_objects.ensures))

pub returns : goal.returns
returns g c =
    let B = c.args.ledger.now in
    then_rest _ _ _ c.write_away.result (loans B c.args.on.now) (loan_objects B ++ away B)
    c.in_ok-write_loans.ensures
    (then_rest _ _ _ c.write_away.result (loan_objects B) (away B)
    c.in_ok-write_loan_objects.ensures
    c.write_away.ensures)
