use Rattle.std.proofs.Common.{◌≡◌, ◌⊎◌, OnErr, rules, subst}
use Rattle.sqlite.specs.Held.{state}
use Rattle.register_store.specs.Holdings.{Comes}
use Rattle.register_store.specs.StoredRows.{AreSame}
use Rattle.register_sql.specs.Growing.{IsGrown}
use Rattle.register_sql.specs.Stores.{in_store}
use Rattle.register_sql.proofs.sql.SqlRegister.grow.Goals as goal

pub returns-else-is_ok-clause-failed : goal.returns-else-is_ok-clause-failed
returns-else-is_ok-clause-failed g c =
    let is : c.self.inside.link.conn ≡ c.args.self.now.conn = search rules in
    subst (λ conn. OnErr c.grow_store-answer.result
    (Comes (in_store (state g.S.Store conn))
    (in_store (state g.S.Store c.grow_store-answer.new.link.conn))
    (λ k d. AreSame k d ⊎ IsGrown c.args.setup.now k d))) is
    c.grow_store-answer.ensures.failed
