use Rattle.std.proofs.Common.{[], ◌∷◌, refl, sym, ◌∙◌, append-nil, arith}
use Rattle.serve_core.specs.Logs.{dropped}
use Rattle.serve_core.proofs.LogLemmas.{err_any, serves_none}
use Rattle.serve_core.proofs.Takings.{takes_one}
use Rattle.serve_core.proofs.intake.take_one.Goals as goal

pub returns-in_err-log_item-in-Ok-clause-fault : goal.returns-in_err-log_item-in-Ok-clause-fault
returns-in_err-log_item-in-Ok-clause-fault g c =
    let fault = c.in_err-log_item-in-Ok.ensures.fault in
    err_any c.from_residual.result (
      c.in-Ok.item,
      fault.0,
      fault.1,
      takes_one c.args.station c.args.ring.now c.pop.new.self (dropped c.args.station c.in-Ok.item)
          c.in-Ok.item c.in-Ok.ensures.ring c.in-Ok.ensures.ok.0 (refl, refl),
    )

pub returns-in-Err-clause-lines : goal.returns-in-Err-clause-lines
returns-in-Err-clause-lines g c =
    let same = c.in-Err.ensures.empty.0 in (
      [],
      sym (append-nil c.args.lines.now.items),
      serves_none g.R.Register.holding c.args.hub.now,
      record { ring = c.in-Err.ensures.ring; of = tt; taken = same ∙ sym (append-nil _) },
      refl,
      omega arith,
    )

pub returns-in_ok-log_item-in-Ok-clause-lines : goal.returns-in_ok-log_item-in-Ok-clause-lines
returns-in_ok-log_item-in-Ok-clause-lines g c =
    let line = c.in_ok-log_item-in-Ok.ensures.line in (
      line.0 ∷ [],
      line.1,
      line.3,
      takes_one c.args.station c.args.ring.now c.pop.new.self line.0 c.in-Ok.item
          c.in-Ok.ensures.ring c.in-Ok.ensures.ok.0 line.2,
      refl,
      omega arith,
    )
