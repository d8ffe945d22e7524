use Rattle.hub_core.proofs.RunLemmas.{opens_hub}
use Rattle.hub_core.proofs.stream.run.opened.Goals as goal

pub returns-in-Ok-clause-hub : goal.returns-in-Ok-clause-hub
returns-in-Ok-clause-hub g c =
    let at = c.as_slice.ensures.value in
    opens_hub (g.R.Read.remaining c.args.input.now) (g.R.Read.remaining c.read_head.new.input)
    c.in_ok-head.head.items c.as_slice.result.now c.in_ok-setup.setup c.in-Ok.hub at
    c.in_ok-head.ensures.head c.in_ok-setup.ensures.exact.0 c.in_ok-setup.ensures.exact.1
    c.in-Ok.ensures.fresh
