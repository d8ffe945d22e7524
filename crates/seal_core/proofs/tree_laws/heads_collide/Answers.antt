use Rattle.seal_core.proofs.SoundHeads.{heads_collide}
use Rattle.seal_core.proofs.tree_laws.heads_collide.Goals as goal

pub returns : goal.returns
returns c = heads_collide
