use Rattle.std.proofs.lemmas.Result.{IfOk-weaker}
use Rattle.export_core.proofs.database.fill.Goals as goal

pub returns-in-Ok : goal.returns-in-Ok
returns-in-Ok g c = IfOk-weaker c.closed.result _ _
    (λ files copied clean.
    record {
      after = c.execute_batch.new.self;
      ran = c.in-Ok.ensures.ran (copied clean).was_clean;
      kept = copied clean;
    })
    c.closed.ensures
