use Rattle.std.proofs.Common.{◌≡◌, drop}
use Rattle.std.specs.List.{find}
use Rattle.std.specs.Str.{bytes_eq}
use Rattle.table_core.specs.Columns.{column_name}
use Rattle.table_core.proofs.columns.column_named.Given as goal

-- no column so far has the name
abbrev pub invariant-loop-column : goal.invariant-loop-column
invariant-loop-column l =
    find (λ column. bytes_eq (column_name column) l.word) (drop l.column-index l.columns)
    ≡ find (λ column. bytes_eq (column_name column) l.word) l.columns
