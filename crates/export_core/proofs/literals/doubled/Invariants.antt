use Rattle.std.proofs.Common.{◌≡◌, string_bytes}
use Rattle.std.specs.Char.{encode_utf8}
use Rattle.std.specs.List.{flat_map}
use Rattle.export_core.specs.Literals.{doubled}
use Rattle.export_core.proofs.literals.doubled.Given as goal

-- the characters so far are appended
abbrev pub invariant-loop-c : goal.invariant-loop-c
invariant-loop-c l = string_bytes l.sql ≡ flat_map (λ c. doubled (encode_utf8 c)) l.yielded
