use Rattle.std.proofs.Common.{◌≡◌, All, take}
use Rattle.std.specs.List.{flat_map}
use Rattle.count_core.specs.Counts.{missing_in, IsMissingIn}
use Rattle.count_core.proofs.missing.missing.Given as goal

abbrev pub invariant-loop-i : goal.invariant-loop-i
invariant-loop-i l =
    (l.missing.items ≡ flat_map (missing_in l.ledger l.rows) (take l.i l.places.items))
    × All (IsMissingIn l.ledger.museum) l.missing.items
