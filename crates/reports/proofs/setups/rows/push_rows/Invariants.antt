use Rattle.std.proofs.Common.{◌≡◌, ◌++◌, drop, take}
use Rattle.std.specs.Prelude.{string_bytes}
use Rattle.nest_core.specs.SetupTexts.{setup_rows}
use Rattle.reports.specs.Lines.{lines}
use Rattle.reports.proofs.setups.rows.push_rows.Given as goal

abbrev pub invariant-loop-i : goal.invariant-loop-i
invariant-loop-i l = string_bytes l.text
    ≡ string_bytes l.fn.text ++ lines l.mark (drop l.from (take l.i (setup_rows l.setup)))
