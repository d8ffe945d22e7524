use Rattle.seal_core.proofs.TreePaths.{other_leaf_collides}
use Rattle.seal_core.proofs.tree_laws.other_leaf_collides.Goals as goal

pub returns : goal.returns
returns c = other_leaf_collides
