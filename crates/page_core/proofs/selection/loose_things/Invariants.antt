use Rattle.std.proofs.Common.{◌≡◌, filter}
use Rattle.std.specs.List.{range_with_len}
use Rattle.page_core.specs.Tree.{is_loose_at}
use Rattle.page_core.proofs.selection.loose_things.Given as goal

abbrev pub invariant-loop-thing : goal.invariant-loop-thing
invariant-loop-thing l =
    l.things.items ≡ filter (is_loose_at l.ledger l.place) (range_with_len 0 l.thing)
