use Rattle.std.proofs.Common.{◌≡◌, drop}
use Rattle.sqlite.specs.Held.{state}
use Rattle.sqlite.specs.State.{HasCleanDisk, Survives}
use Rattle.register_store.specs.StoredRows.{spot_row}
use Rattle.register_sql.specs.Posting.{SoFar, with_each, with_spot}
use Rattle.register_sql.proofs.put.put_spots.Given as goal

abbrev pub invariant-spots : goal.invariant-spots
invariant-spots g l =
    let old = state g.S.Store l.fn.tx.conn.now in
    let now = state g.S.Store l.tx.conn.now in
    (l.tx.conn.ghost_name ≡ l.fn.tx.conn.ghost_name)
    × Survives old now (λ _. ⊥)
    × (HasCleanDisk now → SoFar old now (with_each (λ s. with_spot (spot_row s)) l.spots)
    (with_each (λ s. with_spot (spot_row s)) (drop l.spot-index l.spots)))
