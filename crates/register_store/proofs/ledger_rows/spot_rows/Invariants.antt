use Rattle.std.proofs.Common.{◌≡◌}
use Rattle.std.specs.List.{flat_map, range_with_len}
use Rattle.posting_core.specs.Book.{spots_in}
use Rattle.register_store.specs.StoredRows.{spots_of_thing}
use Rattle.register_store.proofs.ledger_rows.spot_rows.Given as goal

abbrev pub invariant-loop-thing : goal.invariant-loop-thing
invariant-loop-thing l = l.rows.items ≡ flat_map (λ x. spots_of_thing x 1 (spots_in l.ledger x))
    (range_with_len 0 l.thing)
