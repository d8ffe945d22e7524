use Rattle.std.specs.Prelude.{length}
use Rattle.nest_core.specs.SetupGrowing.{grown}
use Rattle.posting_core.proofs.GrownSetups.{grew}
use Rattle.register_store.proofs.GrownRows.{store_grown}
use Rattle.register_store.proofs.laws.growing_keeps_the_store.Goals as goal

pub returns : goal.returns
returns c = λ S T depth P content kept extends lawful is.
    store_grown (length P) S (grown (length P) S T) depth (grew (length P) S T extends) kept P
    content lawful is
