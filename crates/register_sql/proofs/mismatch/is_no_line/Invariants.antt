use Rattle.register_sql.specs.Strange.{IsNone, cells_of_line}
use Rattle.register_sql.proofs.mismatch.is_no_line.Given as goal

abbrev pub invariant-wanted : goal.invariant-wanted
invariant-wanted l = IsNone cells_of_line l.item-index l.wanted l.row
