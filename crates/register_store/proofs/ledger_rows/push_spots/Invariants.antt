use Rattle.std.proofs.Common.{◌≡◌, ◌+◌, ◌++◌, drop}
use Rattle.register_store.specs.StoredRows.{spots_of_thing}
use Rattle.register_store.proofs.ledger_rows.push_spots.Given as goal

abbrev pub invariant-loop-i : goal.invariant-loop-i
invariant-loop-i l = l.rows.items ++ spots_of_thing l.thing (l.i + 1) (drop l.i l.spots)
    ≡ l.initial.rows.items ++ spots_of_thing l.thing 1 l.spots
