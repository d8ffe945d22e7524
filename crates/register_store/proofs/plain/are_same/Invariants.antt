use Rattle.std.proofs.Common.{◌≡◌, map, take, string_bytes}
use Rattle.register_store.proofs.plain.are_same.Given as goal

abbrev pub invariant-loop-i : goal.invariant-loop-i
invariant-loop-i l = take l.i (map string_bytes l.a) ≡ take l.i (map string_bytes l.b)
