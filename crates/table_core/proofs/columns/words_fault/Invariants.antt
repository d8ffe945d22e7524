use Rattle.std.proofs.Common.{◌≡◌, [], drop, take}
use Rattle.table_core.specs.Columns.{words_fault}
use Rattle.table_core.proofs.columns.words_fault.Given as goal

-- no word so far has a fault
abbrev pub invariant-loop-i : goal.invariant-loop-i
invariant-loop-i l = words_fault (take l.i l.words) (drop l.i l.words) ≡ words_fault [] l.words
