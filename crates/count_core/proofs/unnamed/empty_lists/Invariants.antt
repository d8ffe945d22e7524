use Rattle.std.proofs.Common.{◌≡◌, [], replicate}
use Rattle.count_core.specs.Inside.{lists}
use Rattle.count_core.proofs.unnamed.empty_lists.Given as goal

abbrev pub invariant-loop : goal.invariant-loop
invariant-loop l = lists l.empty.items ≡ replicate l.counter []
