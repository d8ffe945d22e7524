use Rattle.std.proofs.Common.{rules, map}
use Rattle.std.specs.List.{filter}
use Rattle.std.specs.Prelude.{codes, string_bytes}
use Rattle.reports.specs.Cells.{is_shown, plain_text, cell_of}
use Rattle.reports.proofs.Joins.{joined_alike}
use Rattle.reports.proofs.line.joined_words.Goals as goal

pub returns : goal.returns
returns c =
    let shown = filter is_shown (map cell_of c.args.words.now) in
    let joined = joined_alike string_bytes plain_text (codes " ") _ shown c.in_ok-texts.ensures in
    search rules
