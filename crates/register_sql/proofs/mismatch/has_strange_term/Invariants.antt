use Rattle.register_sql.specs.Fits.{IsNoTerm}
use Rattle.register_sql.specs.Strange.{cells_of_term}
use Rattle.register_sql.proofs.Stranger.{NoneBefore}
use Rattle.register_sql.proofs.mismatch.has_strange_term.Given as goal

abbrev pub invariant-rows : goal.invariant-rows
invariant-rows l = NoneBefore cells_of_term IsNoTerm l.wanted l.rows l.row-index
