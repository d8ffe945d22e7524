use Rattle.std.proofs.Common.{◌∙◌}
use Rattle.table_core.proofs.Coded.{is_coded, is_left}
use Rattle.table_core.proofs.printed.coded_rows.coded.Goals as goal

pub returns-in-Ok : goal.returns-in-Ok
returns-in-Ok c =
    c.in-Ok.ensures.cases.0
    ∙ is_coded c.args.labels.now c.args.field.now c.as_bytes.result.now c.code_for.result.now
    c.as_bytes.ensures.value c.code_for.ensures c.in-Ok.ensures.cases.1

pub returns-in-Err : goal.returns-in-Err
returns-in-Err c =
    is_left c.args.labels.now c.args.field.now c.as_bytes.result.now c.code_for.result.now
    c.as_bytes.ensures.value c.code_for.ensures c.in-Err.ensures.cases.0
