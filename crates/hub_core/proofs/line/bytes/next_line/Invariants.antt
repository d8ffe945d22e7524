use Rattle.std.proofs.Common.{◌≡◌, ◌≤◌, List, ℕ, take}
use Rattle.std.specs.Io.KnownBytes.{Consumes, Keeps}
use Rattle.hub_core.specs.Reading.{HasNoFeed}
use Rattle.hub_core.proofs.line.bytes.next_line.Given as goal

abbrev pub invariant-loop-reads : goal.invariant-loop-reads
invariant-loop-reads g l =
    ((bytes : List ℕ) × Consumes (g.R.Read.remaining l.fn.input) (g.R.Read.remaining l.input) bytes
    × HasNoFeed bytes × (l.line.items ≡ take 16386 bytes))
    × Keeps (g.W.Write.contents l.fn.output) (g.W.Write.contents l.output)
    × (l.reads.left ≤ l.fn.reads.left)

abbrev pub decreases-loop-reads : goal.decreases-loop-reads
decreases-loop-reads g l = l.reads.left
