use Rattle.std.proofs.Common.{◌≡◌, ◌<◌, take}
use Rattle.line_files.specs.Standings.{least_above}
use Rattle.line_files.proofs.progress.least_above.Given as goal

abbrev pub invariant-loop-one : goal.invariant-loop-one
invariant-loop-one l = record {
  least : l.least ≡ least_above l.last (take l.one-index l.found);
  above : l.last < l.least;
}
