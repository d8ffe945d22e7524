use Rattle.std.proofs.Common.{◌≡◌, ◌+◌, drop, map, string_bytes}
use Rattle.sqlite.specs.Held.{state}
use Rattle.sqlite.specs.State.{HasCleanDisk, Survives, KeepsCommit}
use Rattle.register_sql.specs.Making.{SoFarSetup, setup_from}
use Rattle.register_sql.proofs.make.add_setups.Given as goal

abbrev pub invariant-texts : goal.invariant-texts
invariant-texts g l =
    let old = state g.S.Store l.fn.tx.conn.now in
    let now = state g.S.Store l.tx.conn.now in
    (l.tx.conn.ghost_name ≡ l.fn.tx.conn.ghost_name)
    × Survives old now (λ _. ⊥)
    × (HasCleanDisk now → KeepsCommit old now
    × SoFarSetup old now (setup_from 1 (map string_bytes l.texts))
    (setup_from (l.at + 1) (map string_bytes (drop l.at l.texts))))
