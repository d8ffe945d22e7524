use Rattle.std.proofs.Common.{◌≡◌, string_bytes, take}
use Rattle.std.specs.List.{flat_map}
use Rattle.page_core.specs.Histories.{spot_text}
use Rattle.page_core.proofs.histories.spots_row.Given as goal

abbrev pub invariant-loop-i : goal.invariant-loop-i
invariant-loop-i l =
    string_bytes l.row ≡ flat_map (spot_text l.after l.entry) (take l.i l.spots)
