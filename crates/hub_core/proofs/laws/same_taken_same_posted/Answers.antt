use Rattle.hub_core.proofs.LawLemmas.{same}
use Rattle.hub_core.proofs.laws.same_taken_same_posted.Goals as goal

pub returns : goal.returns
returns c S T depth limit O Q A B s law law' h = same S T depth limit O Q A B s law law' h
