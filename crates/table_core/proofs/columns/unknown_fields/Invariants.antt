use Rattle.std.proofs.Common.{◌≡◌, ◌+◌, ◌++◌, drop}
use Rattle.table_core.specs.Columns.{unknown_from}
use Rattle.table_core.proofs.columns.unknown_fields.Given as goal

-- the unknown fields so far, and those to come
abbrev pub invariant-loop-i : goal.invariant-loop-i
invariant-loop-i l =
    l.unknown.items ++ unknown_from (l.i + 1) (drop l.i l.words) ≡ unknown_from 1 l.words
