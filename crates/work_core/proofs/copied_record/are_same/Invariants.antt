use Rattle.std.proofs.Common.{◌≡◌, take}
use Rattle.work_core.proofs.copied_record.are_same.Given as goal

abbrev pub invariant-entries : goal.invariant-entries
invariant-entries l = take l.at l.ones ≡ take l.at l.others
