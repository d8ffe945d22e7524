use Rattle.seal_core.proofs.SoundPaths.{leaves_collide}
use Rattle.seal_core.proofs.tree_laws.leaves_collide.Goals as goal

pub returns : goal.returns
returns c = leaves_collide
