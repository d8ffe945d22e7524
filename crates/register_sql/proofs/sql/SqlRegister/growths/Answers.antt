use Rattle.std.proofs.Common.{◌≡◌, IfOk, rules, subst}
use Rattle.sqlite.specs.Held.{state}
use Rattle.register_sql.specs.StoredSetups.{AreGrowthsIn}
use Rattle.register_sql.proofs.sql.SqlRegister.growths.Goals as goal

pub returns-clause-growths : goal.returns-clause-growths
returns-clause-growths g c clean =
    let is : c.self.inside.link.conn ≡ c.args.self.now.conn = search rules in
    subst (λ conn. IfOk c.growths_of_store-answer.result
    (λ growths. AreGrowthsIn (state g.S.Store conn).now growths.items)) is
    (c.growths_of_store-answer.ensures.growths clean)
