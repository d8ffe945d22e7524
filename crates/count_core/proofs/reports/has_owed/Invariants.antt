use Rattle.std.proofs.Common.{◌≡◌, take, false}
use Rattle.std.specs.List.{list_any}
use Rattle.count_core.specs.Reports.{is_owed}
use Rattle.count_core.proofs.reports.has_owed.Given as goal

abbrev pub invariant-loop-i : goal.invariant-loop-i
invariant-loop-i l = list_any (is_owed l.ledger l.loan) (take l.i l.objects) ≡ false
