use Rattle.std.proofs.Common.{◌≡◌, Some, take, length}
use Rattle.std.specs.List.{filter_map}
use Rattle.posting_core.specs.Book.{place_in, spots_in, new_spot}
use Rattle.posting_core.proofs.ledger.Ledger.spots_of.Given as goal

abbrev pub invariant-loop-i : goal.invariant-loop-i
invariant-loop-i l = l.spots ≡ filter_map
    (λ y. new_spot l.entry (length (spots_in l.self y)) (place_in l.self y) (Some l.place)
    (Some l.day) y) (take l.i l.things)
