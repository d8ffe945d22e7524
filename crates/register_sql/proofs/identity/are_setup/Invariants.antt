use Rattle.std.proofs.Common.{◌≡◌, map, take, string_bytes}
use Rattle.register_sql.specs.Says.{setup_rows_shown}
use Rattle.register_sql.proofs.identity.are_setup.Given as goal

abbrev pub invariant-rows : goal.invariant-rows
invariant-rows l = take l.at l.rows ≡ setup_rows_shown (take l.at (map string_bytes l.texts))
