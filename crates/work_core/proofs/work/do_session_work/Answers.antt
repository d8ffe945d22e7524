use Rattle.std.proofs.Common.{inr}
use Rattle.std.proofs.lemmas.Result.{on_ok_weaker, IfErr-weaker}
use Rattle.work_core.proofs.work.do_session_work.Goals as goal

pub returns-in-Ok-clause-did : goal.returns-in-Ok-clause-did
returns-in-Ok-clause-did g c =
    on_ok_weaker c.done-ended.result.1
    (λ done. record {
      hub = c.in-Ok.hub;
      fresh = c.in-Ok.ensures.fresh;
      after = c.done-ended.result.0;
      done = done;
    }) c.done-ended.ensures.does

pub returns-in-Ok-clause-stopped : goal.returns-in-Ok-clause-stopped
returns-in-Ok-clause-stopped g c =
    IfErr-weaker c.done-ended.result.1 _ _
    (λ fault stopped. inr (record {
      hub = c.in-Ok.hub;
      fresh = c.in-Ok.ensures.fresh;
      after = c.done-ended.result.0;
      stopped = stopped;
    })) c.done-ended.ensures.stops
