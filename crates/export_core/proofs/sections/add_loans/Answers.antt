use Rattle.std.proofs.Common.{◌∙◌, ◌++◌, ap, codes, string_bytes}
use Rattle.export_core.specs.Loans.{all_lent, all_loan_rows, all_object_rows}
use Rattle.export_core.specs.Statements.{inserts}
use Rattle.export_core.proofs.Joining.{three_added}
use Rattle.export_core.proofs.sections.add_loans.Goals as goal

pub returns : goal.returns
returns c =
    let B = c.args.ledger.now in
    let before = string_bytes c.args.script.now in
    let loans = string_bytes c.add_table.new.script in
    let objects = string_bytes c.add_table-2.new.script in
    three_added before (inserts (codes "loan") (all_loan_rows B))
    (inserts (codes "loan_object") (all_object_rows B)) (all_lent B)
    loans objects (string_bytes c.add_lent.new.script)
    (c.in_ok-add_table.ensures
    ∙ ap (λ r. before ++ inserts (codes "loan") r) c.in_ok-loan_rows.ensures)
    (c.in_ok-add_table-2.ensures
    ∙ ap (λ r. loans ++ inserts (codes "loan_object") r) c.in_ok-object_rows.ensures)
    c.in_ok-add_lent.ensures
