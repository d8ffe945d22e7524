use Rattle.std.proofs.Common.{rules, false, ◌≡◌, true}
use Rattle.std.specs.Str.{is_utf8}
use Rattle.nest_core.proofs.Tables.{is_text, no_text}
use Rattle.desk_core.proofs.texts.shown.Goals as goal

pub returns-in-Ok : goal.returns-in-Ok
returns-in-Ok c =
    let utf8 : is_utf8 c.args.line.now ≡ true = is_text c.args.line.now c.in-Ok.ensures.cases.1 in
    search rules

pub returns-in-Err : goal.returns-in-Err
returns-in-Err c =
    let not_utf8 : is_utf8 c.args.line.now ≡ false =
    no_text c.args.line.now c.in-Err.ensures.cases.0 in
    search rules
