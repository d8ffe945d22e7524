use Rattle.std.proofs.Common.{rules, map}
use Rattle.std.specs.Prelude.{codes, string_bytes}
use Rattle.reports.specs.Aligned.{filled_texts}
use Rattle.reports.proofs.Joins.{joined_as}
use Rattle.reports.proofs.table.aligned_line.Goals as goal

pub returns : goal.returns
returns c =
    let joined = joined_as string_bytes (codes "  ") c.in_ok-texts.texts.items
    (filled_texts c.args.widths.now (map string_bytes c.args.texts.now)) c.in_ok-texts.ensures in
    search rules
