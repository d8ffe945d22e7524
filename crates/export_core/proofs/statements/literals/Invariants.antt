use Rattle.std.proofs.Common.{◌≡◌, map, take}
use Rattle.std.specs.Prelude.{string_bytes}
use Rattle.reports.specs.Values.{value_of}
use Rattle.export_core.specs.Literals.{literal}
use Rattle.export_core.proofs.statements.literals.Given as goal

abbrev pub invariant-loop-i : goal.invariant-loop-i
invariant-loop-i l =
    map string_bytes l.literals.items ≡ map literal (map value_of (take l.i l.values))
