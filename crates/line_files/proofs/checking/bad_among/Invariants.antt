use Rattle.std.proofs.Common.{◌≡◌, ◌+◌, ◌++◌, drop, map}
use Rattle.line_files.specs.Checked.{bad_from}
use Rattle.line_files.proofs.checking.bad_among.Given as goal

-- the bad lines so far, and those to come
abbrev pub invariant-loop-i : goal.invariant-loop-i
invariant-loop-i l =
    l.bad.items ++ bad_from (l.i + 1) (drop l.i (map (λ line. line.now) l.lines))
    ≡ bad_from 1 (map (λ line. line.now) l.lines)
