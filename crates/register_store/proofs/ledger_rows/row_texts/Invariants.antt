use Rattle.std.proofs.Common.{◌≡◌, map, take, string_bytes}
use Rattle.nest_core.specs.SetupTexts.{setup_rows}
use Rattle.register_store.proofs.ledger_rows.row_texts.Given as goal

abbrev pub invariant-loop-i : goal.invariant-loop-i
invariant-loop-i l = map string_bytes l.texts.items ≡ take l.i (setup_rows l.setup)
