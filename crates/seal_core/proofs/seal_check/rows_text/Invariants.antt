use Rattle.std.proofs.Common.{◌≡◌, flat_map, string_bytes, take}
use Rattle.seal_core.specs.SealChecks.{row_text}
use Rattle.seal_core.proofs.seal_check.rows_text.Given as goal

abbrev pub invariant-loop-row : goal.invariant-loop-row
invariant-loop-row l = string_bytes l.text ≡ flat_map row_text (take l.row-index l.rows)
