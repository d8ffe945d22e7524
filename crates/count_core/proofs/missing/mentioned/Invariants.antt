use Rattle.std.proofs.Common.{take}
use Rattle.count_core.proofs.Mentions.{AreMentioned}
use Rattle.count_core.proofs.missing.mentioned.Given as goal

-- the places of the rows so far
abbrev pub invariant-loop-i : goal.invariant-loop-i
invariant-loop-i l = AreMentioned l.ledger.museum (take l.i l.rows) l.places.items l.flags.items
