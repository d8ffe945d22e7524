use Rattle.std.proofs.Common.{◌≡◌, ◌≤◌, ◌+◌, List, ℕ, length, take}
use Rattle.std.specs.Io.KnownBytes.{Consumes}
use Rattle.hub_core.specs.Reading.{HasNoFeed}
use Rattle.hub_core.specs.Lines.{head}
use Rattle.hub_core.proofs.stream.head.next_head_line.Given as goal

abbrev pub invariant-loop-reads : goal.invariant-loop-reads
invariant-loop-reads g l =
    (l.reads.left ≤ l.fn.reads.left)
    × ((bytes : List ℕ) × Consumes (g.R.Read.remaining l.fn.input) (g.R.Read.remaining l.input)
    bytes × HasNoFeed bytes × (l.line.items ≡ take (l.room + 2) bytes)
    × (length (head bytes) ≤ l.room))

abbrev pub decreases-loop-reads : goal.decreases-loop-reads
decreases-loop-reads g l = l.reads.left
