use Rattle.std.proofs.Common.{◌≡◌, string_bytes}
use Rattle.std.specs.Char.{encode_utf8}
use Rattle.std.specs.List.{flat_map}
use Rattle.page_core.specs.Escapes.{escaped}
use Rattle.page_core.proofs.escapes.escaped.Given as goal

-- the characters so far are appended
abbrev pub invariant-loop-c : goal.invariant-loop-c
invariant-loop-c l = string_bytes l.shown ≡ flat_map (λ c. escaped (encode_utf8 c)) l.yielded
