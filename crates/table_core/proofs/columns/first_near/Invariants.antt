use Rattle.std.proofs.Common.{◌≡◌, drop}
use Rattle.std.specs.List.{find}
use Rattle.table_core.specs.Columns.{is_near}
use Rattle.table_core.proofs.columns.first_near.Given as goal

-- the word is near no column so far
abbrev pub invariant-loop-column : goal.invariant-loop-column
invariant-loop-column l =
    find (is_near l.word) (drop l.column-index l.columns) ≡ find (is_near l.word) l.columns
