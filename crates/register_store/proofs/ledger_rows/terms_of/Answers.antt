use Rattle.std.proofs.Common.{◌++◌, refl, ap, ◌∙◌}
use Rattle.std.specs.List.{flat_map}
use Rattle.posting_core.specs.Book.{loans_in}
use Rattle.register_store.specs.Plain.{term_rows, day_of_loan}
use Rattle.register_store.specs.StoredRows.{rows_of_terms}
use Rattle.register_store.proofs.LedgerRows.{next_loan, days_told}
use Rattle.register_store.proofs.ledger_rows.terms_of.Goals as goal

pub loop-i-init : goal.loop-i-init
loop-i-init c =
    let B = c.args.ledger.now in
    ap (λ l. term_rows l ++ flat_map (day_of_loan B) (loans_in B)) c.new-rows.ensures.items
    ∙ days_told B c.is_lawful.ensures

pub loop-i-preserved : goal.loop-i-preserved
loop-i-preserved c =
    let B = c.args.ledger.now in
    next_loan (day_of_loan B) (loans_in B) c.loop-i.i c.loan_at.result
    (term_rows c.loop-i.rows.items) (term_rows c.push_day.new.rows.items)
    (day_of_loan B c.loan_at.result)
    (rows_of_terms B.posted) c.loan_at.ensures.loan refl c.in_ok-push_day.ensures c.loop-i.invariant
