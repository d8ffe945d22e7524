use Rattle.std.proofs.Common.{◌≡◌, ◌++◌, drop}
use Rattle.std.specs.List.{flat_map}
use Rattle.posting_core.specs.Book.{loans_in, objects_of_loan}
use Rattle.register_store.specs.Plain.{held_lines, lines_of_loan}
use Rattle.register_store.specs.StoredRows.{lines_by_loan}
use Rattle.register_store.proofs.ledger_rows.lines_of.Given as goal

abbrev pub invariant-loop-i : goal.invariant-loop-i
invariant-loop-i l = held_lines l.rows.items
    ++ flat_map (λ loan. lines_of_loan l.ledger loan (objects_of_loan l.ledger loan))
    (drop l.i (loans_in l.ledger)) ≡ lines_by_loan l.ledger.museum l.ledger.posted
