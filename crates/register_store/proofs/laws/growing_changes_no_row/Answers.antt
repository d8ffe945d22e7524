use Rattle.std.specs.Prelude.{length}
use Rattle.nest_core.specs.SetupGrowing.{grown}
use Rattle.posting_core.proofs.GrownSetups.{grew}
use Rattle.register_store.proofs.GrownRows.{rows_grown}
use Rattle.register_store.proofs.laws.growing_changes_no_row.Goals as goal

pub returns : goal.returns
returns c = λ S T depth P content kept extends lawful has.
    rows_grown (length P) S (grown (length P) S T) depth (grew (length P) S T extends) kept P
    content lawful has
