use Rattle.std.proofs.lemmas.Result.{IfOk-weaker}
use Rattle.hub_program.proofs.store.open.Goals as goal

pub returns-in-Ok-clause-found : goal.returns-in-Ok-clause-found
returns-in-Ok-clause-found g c =
    IfOk-weaker c.with_record.result _ _
    (λ r same. record {
      found = c.in-Ok.register;
      is = c.in-Ok.ensures.found;
      same = same;
    })
    c.with_record.ensures.same
