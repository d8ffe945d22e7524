use Rattle.std.proofs.Common.{◌≡◌, take}
use Rattle.std.specs.Prelude.{codes, string_bytes}
use Rattle.reports.specs.Lines.{lines}
use Rattle.reports.specs.NowKnown.{now_known_rows}
use Rattle.reports.proofs.setups.now_known.now_known_text.Given as goal

abbrev pub invariant-loop-i : goal.invariant-loop-i
invariant-loop-i l = string_bytes l.text
    ≡ lines (codes "entry ") (now_known_rows l.before l.after 0 (take l.i l.entries))
