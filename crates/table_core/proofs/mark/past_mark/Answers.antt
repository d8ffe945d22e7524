use Rattle.std.proofs.Common.{◌∙◌}
use Rattle.table_core.proofs.StartMarks.{with_mark, without_mark}
use Rattle.table_core.proofs.mark.past_mark.Goals as goal

pub returns-then-starts_with : goal.returns-then-starts_with
returns-then-starts_with c =
    c.split_at.ensures.back
    ∙ with_mark c.args.bytes.now c.starts_with.result c.starts_with.ensures.value
    c.if-starts_with.true

pub returns : goal.returns
returns c =
    without_mark c.args.bytes.now c.starts_with.result c.starts_with.ensures.value
    c.if-starts_with.false
