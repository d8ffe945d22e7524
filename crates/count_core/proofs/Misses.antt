-- The objects that a list misses in a place, by the flags of the named things.
use Rattle.std.specs.Prelude.{ℕ, ◌≡◌, ◌&&◌, not, Bool, List, filter, length}
use Rattle.std.proofs.Common.{ap}
use Rattle.std.specs.List.{range_with_len}
use Rattle.nest_core.specs.Museum.{is_container}
use Rattle.posting_core.specs.Book.{Book}
use Rattle.count_core.specs.declared.count_row.CountRow.{CountRow}
use Rattle.count_core.specs.Counts.{named, is_within, is_missing}
use Rattle.count_core.specs.Inside.{is_unflagged_in}
use Rattle.count_core.specs.Marks.{AreNames}
use Rattle.count_core.proofs.Ranges.{filter_alike}

pub missed_in : (B : Book) (rows : List CountRow) (flags : List Bool) (q : ℕ)
    → AreNames (named B.museum) (length B.museum.things) rows flags
    → filter (is_unflagged_in B flags q) (range_with_len 0 (length B.museum.things))
    ≡ filter (is_missing B rows q) (range_with_len 0 (length B.museum.things))
missed_in B rows flags q are =
    filter_alike (is_unflagged_in B flags q) (is_missing B rows q) (length B.museum.things)
    (λ x lt. ap (λ (b : Bool). (not b && not (is_container B.museum x)) && is_within B q x)
    (are.each x lt))
