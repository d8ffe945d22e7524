use Rattle.std.proofs.Common.{◌≡◌, ◌++◌, map, string_bytes}
use Rattle.std.specs.List.{flat_map, range_with_len}
use Rattle.export_core.specs.Statements.{statement}
use Rattle.export_core.proofs.statements.add_inserts.Given as goal

abbrev pub invariant-loop-n : goal.invariant-loop-n
invariant-loop-n l = string_bytes l.script
    ≡ string_bytes l.fn.script
    ++ flat_map (statement l.table (map string_bytes l.rows)) (range_with_len 0 l.n)
