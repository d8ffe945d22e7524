use Rattle.std.proofs.Common.{◌≡◌, ◌++◌, drop}
use Rattle.std.specs.List.{flat_map}
use Rattle.posting_core.specs.Book.{loans_in}
use Rattle.register_store.specs.Plain.{term_rows, day_of_loan}
use Rattle.register_store.specs.StoredRows.{rows_of_terms}
use Rattle.register_store.proofs.ledger_rows.terms_of.Given as goal

abbrev pub invariant-loop-i : goal.invariant-loop-i
invariant-loop-i l = term_rows l.rows.items ++ flat_map (day_of_loan l.ledger)
    (drop l.i (loans_in l.ledger)) ≡ rows_of_terms l.ledger.posted
