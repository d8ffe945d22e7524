use Rattle.std.proofs.Common.{◌≡◌, string_bytes, take}
use Rattle.std.specs.List.{flat_map}
use Rattle.page_core.specs.Pieces.{page_text}
use Rattle.page_core.specs.LoanObjects.{object_row}
use Rattle.reports.specs.Terms.{agreement_with}
use Rattle.page_core.proofs.loan_objects.terms_row.Given as goal

abbrev pub invariant-loop-i : goal.invariant-loop-i
invariant-loop-i l =
    string_bytes l.row
    ≡ page_text (flat_map (object_row l.ledger (agreement_with l.terms))
    (take l.i l.terms.objects.now))
