use Rattle.std.proofs.Common.{rules}
use Rattle.reports.proofs.WrittenText.{prints_whole}
use Rattle.reports.proofs.rows.print_heading.Goals as goal

pub returns : goal.returns
returns g c =
    let printed = prints_whole _ _ c.write_text.result _ c.write_text.ensures in
    search rules
