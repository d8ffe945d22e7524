use Rattle.std.proofs.Common.{◌≡◌, All, take}
use Rattle.std.specs.Prelude.{string_bytes}
use Rattle.std.specs.Str.{IsUtf8}
use Rattle.nest_core.specs.Museum.{Museum}
use Rattle.nest_core.specs.SetupTexts.{setup_rows}
use Rattle.register_sql.specs.Says.{setup_rows_shown}
use Rattle.register_sql.specs.StoredSetups.{FitsGrowth, file_of, plain_rows}
use Rattle.register_sql.proofs.stored_setup.plain_text.Given as goal

abbrev pub invariant-rows : goal.invariant-rows
invariant-rows l = (S : Museum) → All IsUtf8 (plain_rows S) → All FitsGrowth S.growths
    → l.rows ≡ setup_rows_shown (setup_rows S)
    → string_bytes l.file ≡ file_of (take l.i (plain_rows S))
