use Rattle.std.proofs.Common.{◌≡◌, ◌≤◌, ◌++◌, string_bytes, string_capacity, take}
use Rattle.std.specs.Prelude.{reverse}
use Rattle.hub_core.specs.LineText.{posted_lines}
use Rattle.hub_core.proofs.line.wording.add_posted_lines.Given as goal

abbrev pub invariant-loop-i : goal.invariant-loop-i
invariant-loop-i l = record {
  text : string_bytes l.text ≡ string_bytes l.fn.text ++ posted_lines l.station l.first
      (reverse (take l.i l.entries));
  capacity : string_capacity l.fn.text ≤ string_capacity l.text;
}
