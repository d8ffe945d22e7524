use Rattle.std.proofs.Common.{◌≡◌, take}
use Rattle.register_sql.specs.Found.{spots_shown}
use Rattle.register_sql.proofs.agree.spots_in.Given as goal

abbrev pub invariant-rows : goal.invariant-rows
invariant-rows l = spots_shown l.spots.items ≡ take l.row-index l.rows
