use Rattle.std.proofs.Common.{◌≡◌, filter, take}
use Rattle.page_core.specs.Tree.{is_directly_in}
use Rattle.page_core.proofs.selection.directly_in.Given as goal

abbrev pub invariant-loop-i : goal.invariant-loop-i
invariant-loop-i l =
    l.things.items ≡ filter (is_directly_in l.ledger l.container) (take l.i l.among)
