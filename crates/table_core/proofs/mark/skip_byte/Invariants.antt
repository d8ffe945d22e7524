-- An interrupted read takes nothing.
use Rattle.std.specs.Io.KnownBytes.{Keeps}
use Rattle.table_core.proofs.mark.skip_byte.Given as goal

abbrev pub invariant-loop : goal.invariant-loop
invariant-loop g l = Keeps (g.R.Read.remaining l.fn.reader) (g.R.Read.remaining l.reader)
