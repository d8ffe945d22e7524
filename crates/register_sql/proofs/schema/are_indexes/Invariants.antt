use Rattle.std.proofs.Common.{◌≡◌, take}
use Rattle.register_sql.specs.Tables.{all_indexes}
use Rattle.register_sql.proofs.schema.are_indexes.Given as goal

abbrev pub invariant-all : goal.invariant-all
invariant-all l = take l.at l.all ≡ take l.at all_indexes
