use Rattle.std.proofs.Common.{◌≡◌, ◌++◌, drop}
use Rattle.register_store.specs.Plain.{held_lines, lines_of_loan}
use Rattle.register_store.proofs.ledger_rows.push_lines.Given as goal

abbrev pub invariant-loop-i : goal.invariant-loop-i
invariant-loop-i l = held_lines l.rows.items ++ lines_of_loan l.ledger l.loan (drop l.i l.objects)
    ≡ held_lines l.initial.rows.items ++ lines_of_loan l.ledger l.loan l.objects
