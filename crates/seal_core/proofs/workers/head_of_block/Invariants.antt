use Rattle.std.proofs.Common.{◌≡◌, map}
use Rattle.std.specs.List.{range_with_len}
use Rattle.seal_core.specs.HeadBuilder.{Holds, leaf_count}
use Rattle.seal_core.specs.Leaves.{entry_leaf}
use Rattle.seal_core.proofs.workers.head_of_block.Given as goal

-- the leaves of the entries so far
abbrev pub invariant-loop-i : goal.invariant-loop-i
invariant-loop-i l = record {
  count : leaf_count l.builder ≡ l.i;
  leaves : Holds l.builder (map (entry_leaf l.ledger) (range_with_len l.first l.i));
}
