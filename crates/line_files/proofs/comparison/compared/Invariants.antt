use Rattle.std.proofs.Common.{◌≡◌, map, take}
use Rattle.line_files.specs.Standings.{compared}
use Rattle.line_files.proofs.comparison.compared.Given as goal

abbrev pub invariant-loop-one : goal.invariant-loop-one
invariant-loop-one l = l.them.items ≡ map (compared l.progress) (take l.one-index l.found)
