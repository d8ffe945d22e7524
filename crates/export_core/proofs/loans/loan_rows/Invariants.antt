use Rattle.std.proofs.Common.{◌≡◌, map, string_bytes, take}
use Rattle.std.specs.List.{flat_map}
use Rattle.posting_core.specs.Book.{loans_in}
use Rattle.export_core.specs.Loans.{loan_row}
use Rattle.export_core.proofs.loans.loan_rows.Given as goal

abbrev pub invariant-loop-i : goal.invariant-loop-i
invariant-loop-i l =
    map string_bytes l.rows.items ≡ flat_map (loan_row l.ledger) (take l.i (loans_in l.ledger))
