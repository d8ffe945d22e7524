use Rattle.register_sql.specs.Fits.{IsNoLine}
use Rattle.register_sql.specs.Strange.{cells_of_line}
use Rattle.register_sql.proofs.Stranger.{NoneBefore}
use Rattle.register_sql.proofs.mismatch.has_strange_line.Given as goal

abbrev pub invariant-rows : goal.invariant-rows
invariant-rows l = NoneBefore cells_of_line IsNoLine l.wanted l.rows l.row-index
