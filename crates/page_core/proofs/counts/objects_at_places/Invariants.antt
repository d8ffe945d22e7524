use Rattle.std.proofs.Common.{◌≡◌}
use Rattle.page_core.specs.TreeRows.{counts_among}
use Rattle.page_core.proofs.counts.objects_at_places.Given as goal

abbrev pub invariant-loop-thing : goal.invariant-loop-thing
invariant-loop-thing l = l.counts.items ≡ counts_among l.ledger l.thing
