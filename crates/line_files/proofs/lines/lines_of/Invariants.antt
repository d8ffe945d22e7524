use Rattle.std.proofs.Common.{◌≡◌, ◌++◌, length, map}
use Rattle.hub_core.specs.Lines.{lines}
use Rattle.line_files.proofs.lines.lines_of.Given as goal

-- the lines so far, and those of the rest
abbrev pub invariant-loop-rest : goal.invariant-loop-rest
invariant-loop-rest l = map (λ line. line.now) l.them.items ++ lines l.rest ≡ lines l.bytes

abbrev pub decreases-loop-rest : goal.decreases-loop-rest
decreases-loop-rest l = length l.rest
