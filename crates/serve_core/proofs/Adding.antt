-- Bytes that are appended in two steps.
use Rattle.std.proofs.Common.{◌≡◌, ◌∙◌, ◌+◌, ◌≤◌, ◌++◌, ℕ, List, Result, String, length}
use Rattle.std.proofs.Common.{string_bytes, string_len, string_capacity, ap, arith, append_assoc}
use Rattle.std.proofs.Common.{length-append}
use Rattle.std.proofs.lemmas.Result.{on_ok_weaker}
use Rattle.std.specs.declared.alloc.Global.{Global}
use Rattle.hub_core.specs.Adds.{Adds}

pub adds_after : {T E : Type 0} (old mid new : String Global) (a b : List ℕ) (result : Result T E)
    → string_bytes mid ≡ string_bytes old ++ a → string_len mid ≡ string_len old + length a
    → string_capacity old ≤ string_capacity mid → Adds mid new b result
    → Adds old new (a ++ b) result
adds_after old mid new a b result bytes len capacity added = record {
  text = on_ok_weaker result (λ e. e ∙ ap (λ (before : List ℕ). before ++ b) bytes ∙ append_assoc
      (string_bytes old) a b) added.text;
  room = λ fits. added.room (omega (arith, fits, len, length-append a b));
  capacity = omega (arith, capacity, added.capacity);
}
