use Rattle.std.proofs.Common.{◌≡◌, map, string_bytes, take}
use Rattle.csv.specs.Records.{fields_of}
use Rattle.table_core.proofs.sheet_reader.row_of.Given as goal

-- the fields before this one are kept
abbrev pub invariant-loop-i : goal.invariant-loop-i
invariant-loop-i l = map string_bytes l.row.items ≡ take l.i (fields_of l.read)
