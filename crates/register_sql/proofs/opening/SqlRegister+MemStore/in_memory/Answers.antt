use Rattle.std.proofs.Common.{◌≡◌, refl, sym, subst}
use Rattle.sqlite.specs.Held.{state}
use Rattle.sqlite.specs.Steps.{over_memory}
use Rattle.sqlite_trees.specs.View.{doubt}
use Rattle.register_store.specs.Holdings.{Has}
use Rattle.register_sql.specs.Stores.{in_store, no_rows}
use Rattle.register_sql.proofs.Holds.{empty_has}
use Rattle.register_sql.proofs.opening.SqlRegister+MemStore.in_memory.Goals as goal

pub returns-in-Ok-clause-quiet : goal.returns-in-Ok-clause-quiet
unfolding doubt
returns-in-Ok-clause-quiet c = refl

pub returns-in-Ok-clause-empty : goal.returns-in-Ok-clause-empty
returns-in-Ok-clause-empty c =
    let it = c.in-Ok.ensures.empty in
    subst (λ conn. Has (in_store (state over_memory conn)) (λ k. k ≡ no_rows))
    (sym c.adopt.ensures.same)
    (empty_has (state over_memory c.in-Ok.conn) (λ db left. left) refl it.0.clean
    (it.1 it.0.is_open).0 it.2)
