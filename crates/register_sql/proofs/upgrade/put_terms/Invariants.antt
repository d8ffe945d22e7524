use Rattle.std.proofs.Common.{◌≡◌, drop}
use Rattle.sqlite.specs.Held.{state}
use Rattle.sqlite.specs.State.{HasCleanDisk, Survives}
use Rattle.register_store.specs.StoredRows.{term_of}
use Rattle.register_sql.specs.Posting.{SoFar, with_each, with_some_term}
use Rattle.register_sql.proofs.upgrade.put_terms.Given as goal

abbrev pub invariant-entries : goal.invariant-entries
invariant-entries g l =
    let old = state g.S.Store l.fn.tx.conn.now in
    let now = state g.S.Store l.tx.conn.now in
    (l.tx.conn.ghost_name ≡ l.fn.tx.conn.ghost_name)
    × Survives old now (λ _. ⊥)
    × (HasCleanDisk now → SoFar old now (with_each (λ e. with_some_term (term_of e)) l.entries)
    (with_each (λ e. with_some_term (term_of e)) (drop l.entry-index l.entries)))
