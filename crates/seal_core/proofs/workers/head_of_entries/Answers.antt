use Rattle.std.proofs.Common.{◌∙◌, ap, sym}
use Rattle.seal_core.specs.Leaves.{entry_leaf}
use Rattle.seal_core.specs.Trees.{head_of}
use Rattle.seal_core.proofs.Blocks.{tree_head-all}
use Rattle.seal_core.proofs.workers.head_of_entries.Goals as goal

pub returns : goal.returns
returns g c = c.head_of_hashes.ensures
    ∙ (ap head_of (c.deref.ensures.value ∙ c.in_ok-heads.ensures)
    ∙ sym (tree_head-all (entry_leaf c.args.ledger.now) c.args.entries))
