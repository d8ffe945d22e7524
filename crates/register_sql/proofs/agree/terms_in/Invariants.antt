use Rattle.std.proofs.Common.{◌≡◌, take}
use Rattle.register_sql.specs.Found.{terms_shown}
use Rattle.register_sql.proofs.agree.terms_in.Given as goal

abbrev pub invariant-rows : goal.invariant-rows
invariant-rows l = terms_shown l.kept.entries ≡ take l.row-index l.rows
