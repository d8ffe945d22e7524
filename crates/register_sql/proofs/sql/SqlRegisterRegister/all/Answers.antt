use Rattle.std.proofs.Common.{◌≡◌, IfErr, rules, subst}
use Rattle.sqlite.specs.Held.{state}
use Rattle.register_store.specs.Holdings.{Each}
use Rattle.register_store.specs.Registers.{IsListFault}
use Rattle.register_sql.specs.Stores.{in_store}
use Rattle.register_sql.proofs.sql.SqlRegisterRegister.all.Goals as goal

pub returns-clause-cause : goal.returns-clause-cause
returns-clause-cause g c =
    let is : c.self.inside.stations ≡ c.args.self.now.stations = search rules in
    subst (λ n. IfErr c.list_store-answer.result
    (λ fault. Each (in_store (state g.S.Store c.list_store-answer.new.link.conn))
    (λ k. IsListFault n k fault))) is c.list_store-answer.ensures.cause
