use Rattle.std.proofs.Common.{◌≡◌, ◌++◌, drop}
use Rattle.std.specs.Prelude.{string_bytes}
use Rattle.count_core.specs.Summaries.{with_commas}
use Rattle.count_core.proofs.summary.add_digits.Given as goal

-- the digits before this one are written
abbrev pub invariant-loop-i : goal.invariant-loop-i
invariant-loop-i l = string_bytes l.text ++ with_commas (drop l.i l.digits)
    ≡ string_bytes l.fn.text ++ with_commas l.digits
