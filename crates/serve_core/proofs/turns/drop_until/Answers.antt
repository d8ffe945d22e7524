use Rattle.std.proofs.Common.{[]}
use Rattle.serve_core.proofs.Takings.{takes_none, takes_is_some, some_then_none}
use Rattle.serve_core.proofs.turns.drop_until.Goals as goal

pub loop-init : goal.loop-init
loop-init g c = (tt, tt, takes_is_some _ _ [] (takes_none _))

pub loop-preserved : goal.loop-preserved
loop-preserved g c = (tt, tt, some_then_none _ _ _ [] c.loop.invariant.2 c.drop_items-taken.ensures)
