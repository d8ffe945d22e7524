use Rattle.std.proofs.Common.{◌≡◌, ◌++◌, codes, map, string_bytes, take}
use Rattle.std.specs.List.{flat_map}
use Rattle.reports.specs.Cells.{plain_text}
use Rattle.page_core.specs.Pieces.{page_text}
use Rattle.page_core.specs.Tables.{cell}
use Rattle.reports.specs.Values.{value_of}
use Rattle.page_core.proofs.values.values_row.Given as goal

abbrev pub invariant-loop-i : goal.invariant-loop-i
invariant-loop-i l =
    string_bytes l.row ≡ codes "<tr>"
    ++ page_text (flat_map cell (map plain_text (map value_of (take l.i l.values))))
