use Rattle.std.proofs.Common.{ℕ, ◌<◌, ◌≢◌, slice_index_or}
use Rattle.sqlite.specs.Order.{Row}
use Rattle.register_sql.specs.Ages.{version_row}
use Rattle.register_sql.specs.Rows.{meta_cells}
use Rattle.register_sql.proofs.version.lacks_version.Given as goal

abbrev pub invariant-rows : goal.invariant-rows
invariant-rows l = (k : ℕ) (d : Row) → k < l.row-index
    → slice_index_or l.rows k d ≢ meta_cells (version_row l.version)
