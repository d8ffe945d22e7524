use Rattle.std.proofs.Common.{◌++◌, ap, ◌∙◌}
use Rattle.std.specs.List.{flat_map}
use Rattle.posting_core.specs.Book.{loans_in, objects_of_loan}
use Rattle.register_store.specs.Plain.{held_lines, lines_of_loan}
use Rattle.register_store.specs.StoredRows.{lines_by_loan}
use Rattle.register_store.proofs.LedgerRows.{next_loan, told_objects, lines_told}
use Rattle.register_store.proofs.ledger_rows.lines_of.Goals as goal

pub loop-i-init : goal.loop-i-init
loop-i-init c =
    let B = c.args.ledger.now in
    ap (λ l. held_lines l ++ flat_map (λ loan. lines_of_loan B loan (objects_of_loan B loan))
    (loans_in B)) c.new-rows.ensures.items ∙ lines_told B c.is_lawful.ensures

pub loop-i-preserved : goal.loop-i-preserved
loop-i-preserved c =
    let B = c.args.ledger.now in
    let loan = c.loan_at.result in
    next_loan (λ loan. lines_of_loan B loan (objects_of_loan B loan)) (loans_in B) c.loop-i.i loan
    (held_lines c.loop-i.rows.items) (held_lines c.push_lines.new.rows.items)
    (lines_of_loan B loan c.objects.result.now)
    (lines_by_loan B.museum B.posted) c.loan_at.ensures.loan
    (told_objects B (loans_in B) c.loop-i.i loan c.objects.result.now c.loan_at.ensures.loan
    c.objects.ensures.objects) c.in_ok-push_lines.ensures c.loop-i.invariant
