use Rattle.std.proofs.Common.{◌≡◌, ◌++◌, map, string_bytes, take}
use Rattle.reports.specs.Terms.{agreement_with}
use Rattle.export_core.specs.Loans.{object_row}
use Rattle.export_core.proofs.loan_objects.push_lines.Given as goal

abbrev pub invariant-loop-i : goal.invariant-loop-i
invariant-loop-i l = map string_bytes l.rows.items
    ≡ map string_bytes l.fn.rows.items
    ++ map (object_row l.ledger (agreement_with l.terms)) (take l.i l.terms.objects.now)
