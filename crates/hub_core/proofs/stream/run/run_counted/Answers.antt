use Rattle.std.proofs.Common.{inr, refl, List, ℕ, Option}
use Rattle.hub_core.specs.WholeRun.{run_fault, AfterRun}
use Rattle.hub_core.proofs.Written.{if_err}
use Rattle.hub_core.proofs.RunLemmas.{lines_answered, lines_fault, no_store}
use Rattle.hub_core.proofs.stream.run.run_counted.Goals as goal

pub returns-clause-bytes_to_bytes : goal.returns-clause-bytes_to_bytes
returns-clause-bytes_to_bytes g c =
    lines_answered (g.R.Read.remaining c.args.input.now) (g.R.Read.remaining c.opened.new.input)
    (g.R.Read.remaining c.replay_from.new.input) (g.W.Write.contents c.args.output.now)
    (g.W.Write.contents c.replay_from.new.output)
    c.in_ok-hub.hub c.replay_from.new.hub c.in_ok-hub.ensures.hub
    c.in_ok-replay_from.ensures.answered

pub returns-in_err-replay_from-clause-faults : goal.returns-in_err-replay_from-clause-faults
returns-in_err-replay_from-clause-faults g c =
    let i : Option (List ℕ) = g.R.Read.remaining c.args.input.now in
    let i1 : Option (List ℕ) = g.R.Read.remaining c.opened.new.input in
    let i2 : Option (List ℕ) = g.R.Read.remaining c.replay_from.new.input in
    let o : Option (List ℕ) = g.W.Write.contents c.args.output.now in
    let o2 : Option (List ℕ) = g.W.Write.contents c.replay_from.new.output in
    let fault = c.in_err-replay_from.field-0.0 in
    if_err c.from_residual-in_err-replay_from.result (AfterRun i i2 o o2) (run_fault fault)
    c.from_residual-in_err-replay_from.ensures.1
    (inr (
      fault,
      refl,
      lines_fault i i1 i2 o o2 c.in_ok-hub.hub c.replay_from.new.hub fault
          c.in_ok-hub.ensures.hub c.in_err-replay_from.ensures.ends.faults,
    ))

pub returns-in_err-replay_from-clause-never_store :
    goal.returns-in_err-replay_from-clause-never_store
returns-in_err-replay_from-clause-never_store g c =
    no_store c.from_residual-in_err-replay_from.result c.in_err-replay_from.field-0.0
    c.from_residual-in_err-replay_from.ensures.1 c.in_err-replay_from.ensures.ends.count
