use Rattle.seal_core.specs.Hashes.{leaf_hash}
use Rattle.seal_core.proofs.Equations.{tree_head-halves}
use Rattle.seal_core.proofs.Heads.{head_of-nil, head_of-one}
use Rattle.seal_core.proofs.tree_laws.heads_follow_rfc_6962.Goals as goal

pub returns-clause-none : goal.returns-clause-none
returns-clause-none c = head_of-nil

pub returns-clause-one : goal.returns-clause-one
returns-clause-one c = λ leaf. head_of-one (leaf_hash leaf)

pub returns-clause-more : goal.returns-clause-more
returns-clause-more c = tree_head-halves
