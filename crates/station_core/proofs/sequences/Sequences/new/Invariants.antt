use Rattle.std.proofs.Common.{◌≡◌, map, take}
use Rattle.station_core.specs.Series.{opened}
use Rattle.station_core.proofs.sequences.Sequences.new.Given as goal

abbrev pub invariant-loop-start : goal.invariant-loop-start
invariant-loop-start g l = l.stations.items ≡ map opened (take l.start-index l.starts)
