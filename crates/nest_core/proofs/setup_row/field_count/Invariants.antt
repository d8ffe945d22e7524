use Rattle.std.proofs.Common.{◌≡◌, take}
use Rattle.csv.specs.Records.{fields_of}
use Rattle.nest_core.specs.SetupRows.{field_count}
use Rattle.nest_core.proofs.setup_row.field_count.Given as goal

-- the fields so far
abbrev pub invariant-loop-i : goal.invariant-loop-i
invariant-loop-i l = l.count ≡ field_count (take l.i (fields_of l.row))
