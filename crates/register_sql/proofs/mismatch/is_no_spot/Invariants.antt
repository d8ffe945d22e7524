use Rattle.register_sql.specs.Strange.{IsNone, cells_of_spot}
use Rattle.register_sql.proofs.mismatch.is_no_spot.Given as goal

abbrev pub invariant-wanted : goal.invariant-wanted
invariant-wanted l = IsNone cells_of_spot l.item-index l.wanted l.row
