use Rattle.std.proofs.Common.{◌≤◌, length}
use Rattle.std.specs.Io.KnownBytes.{Consumes}
use Rattle.hub_core.specs.declared.stream.head.TheConstants.{LONGEST_HEAD}
use Rattle.hub_core.proofs.HeadLemmas.{IsFull}
use Rattle.hub_core.proofs.stream.head.read_head.Given as goal

abbrev pub invariant-loop-reads : goal.invariant-loop-reads
invariant-loop-reads g l =
    Consumes (g.R.Read.remaining l.fn.input) (g.R.Read.remaining l.input) l.head.items
    × IsFull l.head.items × (length l.head.items ≤ LONGEST_HEAD)
    × (l.reads.left ≤ l.fn.reads.left)

abbrev pub decreases-loop-reads : goal.decreases-loop-reads
decreases-loop-reads g l = l.reads.left
