use Rattle.std.proofs.Common.{◌≡◌, true, take}
use Rattle.std.specs.List.{list_all}
use Rattle.register_store.specs.Spelling.{is_thing}
use Rattle.register_store.proofs.spelled.things_are_spelled.Given as goal

abbrev pub invariant-loop-thing : goal.invariant-loop-thing
invariant-loop-thing l = list_all is_thing (take l.thing-index l.things) ≡ true
