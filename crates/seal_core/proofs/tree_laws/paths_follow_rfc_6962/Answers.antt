use Rattle.std.proofs.Common.{[], ◌∷◌, refl}
use Rattle.seal_core.specs.Hashes.{leaf_hash}
use Rattle.seal_core.proofs.Equations.{audit_path-left, audit_path-right}
use Rattle.seal_core.proofs.PathSplits.{path_of-single}
use Rattle.seal_core.proofs.tree_laws.paths_follow_rfc_6962.Goals as goal

pub returns-clause-one : goal.returns-clause-one
returns-clause-one c = λ leaf. path_of-single 0 (leaf_hash leaf ∷ []) refl

pub returns-clause-left : goal.returns-clause-left
returns-clause-left c = audit_path-left

pub returns-clause-right : goal.returns-clause-right
returns-clause-right c = audit_path-right
