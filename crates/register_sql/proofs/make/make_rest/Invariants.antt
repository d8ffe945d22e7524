use Rattle.std.proofs.Common.{◌≡◌, ◌≤◌}
use Rattle.sqlite.specs.Held.{state}
use Rattle.sqlite.specs.State.{HasCleanDisk, Survives, KeepsCommit}
use Rattle.register_sql.specs.Making.{Goes, Grown}
use Rattle.register_sql.proofs.make.make_rest.Given as goal

abbrev pub invariant-tables : goal.invariant-tables
invariant-tables g l =
    let old = state g.S.Store l.fn.tx.conn.now in
    let now = state g.S.Store l.tx.conn.now in
    (l.tx.conn.ghost_name ≡ l.fn.tx.conn.ghost_name)
    × Survives old now (λ _. ⊥)
    × (HasCleanDisk now → KeepsCommit old now × Goes l.at (Grown l.made l.at) old now)
    × (l.at ≤ 6)
