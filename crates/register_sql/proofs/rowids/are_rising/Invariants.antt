use Rattle.std.proofs.Common.{ℕ, ◌+◌, ◌<◌, slice_index_or}
use Rattle.sqlite.specs.Order.{Row}
use Rattle.register_sql.specs.Rowids.{IsBelow}
use Rattle.register_sql.proofs.rowids.are_rising.Given as goal

abbrev pub invariant-rows : goal.invariant-rows
invariant-rows l = (k : ℕ) (d : Row) → k + 1 < l.at
    → IsBelow (slice_index_or l.rows k d) (slice_index_or l.rows (k + 1) d)
