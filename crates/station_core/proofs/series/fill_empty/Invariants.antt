use Rattle.std.proofs.Common.{◌≡◌, None, replicate}
use Rattle.circular_buffer.specs.Buffer.{buffer}
use Rattle.station_core.proofs.series.fill_empty.Given as goal

abbrev pub invariant-loop : goal.invariant-loop
invariant-loop g l = l.slots ≡ buffer (replicate l.counter None) l.fn.slots.capacity
