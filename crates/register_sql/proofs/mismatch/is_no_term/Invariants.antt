use Rattle.register_sql.specs.Strange.{IsNone, cells_of_term}
use Rattle.register_sql.proofs.mismatch.is_no_term.Given as goal

abbrev pub invariant-wanted : goal.invariant-wanted
invariant-wanted l = IsNone cells_of_term l.item-index l.wanted l.row
