use Rattle.serve_core.proofs.LogLemmas.{err_any, met_in}
use Rattle.serve_core.proofs.item_replies.reply_to_item.Goals as goal

pub returns-in_err-answer-in-Scan-clause-fault : goal.returns-in_err-answer-in-Scan-clause-fault
returns-in_err-answer-in-Scan-clause-fault g c =
    let e = c.in_err-answer-in-Scan.ensures in
    err_any c.from_residual.result
    (λ O A st. rw c.in-Scan.is
    (met_in g.R.Register.holding c.args.hub.now c.arrive.new.self O A
    (record {
      station = c.args.station;
      n = c.in-Scan.n;
      message = c.in-Scan.message;
    }) st e.fault e.museum e.depth (e.after_fault O A st)))
