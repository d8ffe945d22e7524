use Rattle.std.proofs.Common.{◌≡◌, ◌++◌, string_bytes, take}
use Rattle.std.specs.List.{flat_map}
use Rattle.posting_core.specs.Book.{loans_in}
use Rattle.export_core.specs.Loans.{lent_texts}
use Rattle.export_core.proofs.loan_objects.add_lent.Given as goal

abbrev pub invariant-loop-i : goal.invariant-loop-i
invariant-loop-i l = string_bytes l.script
    ≡ string_bytes l.fn.script ++ flat_map (lent_texts l.ledger) (take l.i (loans_in l.ledger))
