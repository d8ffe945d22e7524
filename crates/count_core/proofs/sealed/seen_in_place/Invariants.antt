use Rattle.std.proofs.Common.{length, take}
use Rattle.count_core.specs.Marks.{AreNames}
use Rattle.count_core.specs.Sealed.{seen_in_place}
use Rattle.count_core.proofs.sealed.seen_in_place.Given as goal

-- the rows so far
abbrev pub invariant-loop-i : goal.invariant-loop-i
invariant-loop-i l = AreNames (seen_in_place l.ledger) (length l.ledger.museum.things)
    (take l.i l.rows) l.flags.items
