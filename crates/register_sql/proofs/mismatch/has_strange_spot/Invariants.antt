use Rattle.register_sql.specs.Fits.{IsNoSpot}
use Rattle.register_sql.specs.Strange.{cells_of_spot}
use Rattle.register_sql.proofs.Stranger.{NoneBefore}
use Rattle.register_sql.proofs.mismatch.has_strange_spot.Given as goal

abbrev pub invariant-rows : goal.invariant-rows
invariant-rows l = NoneBefore cells_of_spot IsNoSpot l.wanted l.rows l.row-index
