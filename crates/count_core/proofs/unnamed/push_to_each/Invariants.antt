use Rattle.std.proofs.Common.{◌≡◌, ◌==◌, ◌++◌, ℕ, filter, length, map, take}
use Rattle.count_core.specs.Inside.{lists, list_at}
use Rattle.count_core.proofs.unnamed.push_to_each.Given as goal

abbrev pub invariant-loop-i : goal.invariant-loop-i
invariant-loop-i l = record {
  many : length l.unnamed.items ≡ length l.initial.unnamed.items;
  each : (q : ℕ) → list_at (lists l.unnamed.items) q ≡ list_at (lists l.initial.unnamed.items) q
      ++ map (λ p. l.thing) (filter (λ p. p == q) (take l.i l.places));
}
