use Rattle.std.proofs.Common.{rules}
use Rattle.std.specs.Prelude.{codes, string_bytes}
use Rattle.reports.specs.Texts.{thing_text}
use Rattle.reports.proofs.Joins.{joined_alike}
use Rattle.reports.proofs.sections.things.codes_text.Goals as goal

pub returns : goal.returns
returns c =
    let joined = joined_alike string_bytes (thing_text c.args.setup.now) (codes " ") _
    c.args.things.now c.in_ok-codes.ensures in
    search rules
