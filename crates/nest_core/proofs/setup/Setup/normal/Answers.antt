use Rattle.std.proofs.Common.{sym}
use Rattle.nest_core.proofs.Museums.{normal_within}
use Rattle.nest_core.proofs.setup.Setup.normal.Goals as goal

pub returns-clause-within : goal.returns-clause-within
returns-clause-within c =
    rw (← c.self.view_is) (normal_within _ c.args.thing (
      c.unwrap.result.0.now,
      c.unwrap.result.1.now,
    ) c.self.invariant
    (rw c.unwrap.ensures at (sym c.get_index.ensures.entry)))
