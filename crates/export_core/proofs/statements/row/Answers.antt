use Rattle.std.proofs.Common.{rules, map}
use Rattle.std.specs.Prelude.{codes, string_bytes}
use Rattle.reports.specs.Values.{value_of}
use Rattle.reports.proofs.Joins.{joined_alike}
use Rattle.export_core.specs.Literals.{literal}
use Rattle.export_core.proofs.statements.row.Goals as goal

pub returns : goal.returns
returns c =
    let joined = joined_alike string_bytes literal (codes ",") _ (map value_of c.args.values.now)
    c.in_ok-literals.ensures in
    search rules
