use Rattle.std.proofs.Common.{◌≡◌, ◌++◌, filter, map}
use Rattle.std.specs.List.{range_with_len}
use Rattle.std.specs.Prelude.{codes, string_bytes}
use Rattle.reports.specs.GrowthTexts.{is_rehomed, rehomed_row}
use Rattle.reports.specs.Lines.{lines}
use Rattle.reports.proofs.setups.growth.push_rehomed.Given as goal

abbrev pub invariant-loop-thing : goal.invariant-loop-thing
invariant-loop-thing l = string_bytes l.text
    ≡ string_bytes l.fn.text ++ lines (codes "~ ") (map (rehomed_row l.before l.after)
    (filter (is_rehomed l.before l.after) (range_with_len 0 l.thing)))
