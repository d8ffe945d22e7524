use Rattle.seal_core.proofs.Complete.{audit_path-complete}
use Rattle.seal_core.proofs.tree_laws.paths_are_complete.Goals as goal

pub returns : goal.returns
returns c = audit_path-complete
