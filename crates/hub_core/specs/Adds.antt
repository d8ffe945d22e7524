-- Defines appending bytes to a text.
use Rattle.std.specs.Prelude.{ℕ, ◌≡◌, ◌+◌, ◌≤◌, ◌++◌, List, length, Result, String, string_bytes}
use Rattle.std.specs.Prelude.{string_len, string_capacity, IsOk, OnOk}
use Rattle.std.specs.declared.alloc.Global.{Global}

-- The bytes are appended. That can fail only if the text has no room for them. The room never
-- shrinks.
pub record Adds {T E : Type 0} (old new : String Global) (bytes : List ℕ)
    (result : Result T E) : Type 0 where
  pub text : OnOk result (string_bytes new ≡ string_bytes old ++ bytes)
  pub room : string_len old + length bytes ≤ string_capacity old → IsOk result
  pub capacity : string_capacity old ≤ string_capacity new
