use Rattle.std.proofs.Common.{ℕ, ◌<◌, slice_index_or}
use Rattle.sqlite.specs.Order.{Row}
use Rattle.register_sql.specs.Says.{IsOther}
use Rattle.register_sql.proofs.identity.has_other.Given as goal

abbrev pub invariant-rows : goal.invariant-rows
invariant-rows l = (k : ℕ) (d : Row) → k < l.row-index → ¬ IsOther (slice_index_or l.rows k d)
