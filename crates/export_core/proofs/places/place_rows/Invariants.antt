use Rattle.std.proofs.Common.{◌≡◌, map, string_bytes}
use Rattle.std.specs.List.{range_with_len}
use Rattle.export_core.specs.Setups.{place_row}
use Rattle.export_core.proofs.places.place_rows.Given as goal

abbrev pub invariant-loop-place : goal.invariant-loop-place
invariant-loop-place l =
    map string_bytes l.rows.items ≡ map (place_row l.setup) (range_with_len 0 l.place)
