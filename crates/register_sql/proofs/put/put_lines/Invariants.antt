use Rattle.std.proofs.Common.{◌≡◌, drop}
use Rattle.sqlite.specs.Held.{state}
use Rattle.sqlite.specs.State.{HasCleanDisk, Survives}
use Rattle.register_store.specs.StoredRows.{line_row}
use Rattle.register_sql.specs.Posting.{SoFar, with_each, with_line}
use Rattle.register_sql.proofs.put.put_lines.Given as goal

abbrev pub invariant-lines : goal.invariant-lines
invariant-lines g l =
    let old = state g.S.Store l.fn.tx.conn.now in
    let now = state g.S.Store l.tx.conn.now in
    (l.tx.conn.ghost_name ≡ l.fn.tx.conn.ghost_name)
    × Survives old now (λ _. ⊥)
    × (HasCleanDisk now → SoFar old now (with_each (λ l. with_line (line_row l)) l.lines)
    (with_each (λ l. with_line (line_row l)) (drop l.line-index l.lines)))
