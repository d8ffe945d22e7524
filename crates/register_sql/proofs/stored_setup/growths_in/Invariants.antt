use Rattle.std.proofs.Common.{◌≡◌, ◌-◌, All, length, take}
use Rattle.nest_core.specs.Museum.{Museum}
use Rattle.nest_core.specs.SetupTexts.{setup_rows}
use Rattle.register_sql.specs.Says.{setup_rows_shown}
use Rattle.register_sql.specs.StoredSetups.{FitsGrowth, plain_rows}
use Rattle.register_sql.proofs.stored_setup.growths_in.Given as goal

abbrev pub invariant-rows : goal.invariant-rows
invariant-rows l = (S : Museum) → All FitsGrowth S.growths
    → l.rows ≡ setup_rows_shown (setup_rows S)
    → l.growths.items ≡ take (l.i - length (plain_rows S)) S.growths
