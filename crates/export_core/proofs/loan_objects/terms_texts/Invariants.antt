use Rattle.std.proofs.Common.{◌≡◌, string_bytes, take}
use Rattle.std.specs.List.{flat_map}
use Rattle.reports.specs.Terms.{agreement_with}
use Rattle.export_core.specs.Loans.{lent_if}
use Rattle.export_core.proofs.loan_objects.terms_texts.Given as goal

abbrev pub invariant-loop-i : goal.invariant-loop-i
invariant-loop-i l =
    string_bytes l.texts
    ≡ flat_map (lent_if l.ledger (agreement_with l.terms)) (take l.i l.terms.objects.now)
