use Rattle.std.proofs.Common.{◌≡◌, map, string_bytes}
use Rattle.std.specs.List.{range_with_len}
use Rattle.export_core.specs.Setups.{thing_row}
use Rattle.export_core.proofs.things.thing_rows.Given as goal

abbrev pub invariant-loop-thing : goal.invariant-loop-thing
invariant-loop-thing l =
    map string_bytes l.rows.items ≡ map (thing_row l.ledger) (range_with_len 0 l.thing)
