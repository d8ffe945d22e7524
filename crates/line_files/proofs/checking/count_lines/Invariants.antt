use Rattle.std.proofs.Common.{◌≡◌, ◌≤◌, count_by, not, take}
use Rattle.hub_core.specs.Lines.{is_empty}
use Rattle.line_files.proofs.checking.count_lines.Given as goal

abbrev pub invariant-loop-line : goal.invariant-loop-line
invariant-loop-line l =
    (l.count ≡ count_by (λ line. not (is_empty line.now)) (take l.line-index l.lines))
    × (l.count ≤ l.line-index)
