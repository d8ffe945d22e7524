use Rattle.std.proofs.Common.{codes, rules, string_bytes}
use Rattle.export_core.proofs.Joining.{joined_texts}
use Rattle.export_core.proofs.statements.insert.Goals as goal

pub returns : goal.returns
returns c =
    let joined = joined_texts string_bytes (codes ",\n") c.args.rows.now in
    search rules
