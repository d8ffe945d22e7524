use Rattle.std.proofs.Common.{◌≡◌, ◌⊎◌, OnErr, rules, subst}
use Rattle.sqlite.specs.Held.{state}
use Rattle.register_store.specs.Holdings.{Comes, IsPosted}
use Rattle.register_store.specs.StoredRows.{AreSame}
use Rattle.register_sql.specs.Stores.{in_store}
use Rattle.register_sql.proofs.sql.SqlRegisterRegister.post.Goals as goal

pub returns-clause-failed : goal.returns-clause-failed
returns-clause-failed g c =
    let is : c.self.inside.link.conn ≡ c.args.self.now.conn = search rules in
    subst (λ conn. OnErr c.post_to_store-answer.result
    (Comes (in_store (state g.S.Store conn))
    (in_store (state g.S.Store c.post_to_store-answer.new.link.conn))
    (λ k d. AreSame k d ⊎ IsPosted c.args.entry.now c.args.changes.now k d))) is
    c.post_to_store-answer.ensures.failed
