use Rattle.std.proofs.Common.{ap, Err}
use Rattle.std.proofs.lemmas.Str.{is_utf8-from_IsUtf8}
use Rattle.hub_core.proofs.RequestLemmas.{of_value, of_none}
use Rattle.hub_core.proofs.line.request.read_line_with.Goals as goal

pub returns-in-Ok-clause-exact : goal.returns-in-Ok-clause-exact
returns-in-Ok-clause-exact c =
    let same = of_value c.args.setup.now _ _ (is_utf8-from_IsUtf8 _ c.in-Ok.ensures.ok.0)
    c.in-Ok.ensures.ok.1 in
    rw same c.line_of.ensures.exact

pub returns-in-Err-NotJson-clause-exact : goal.returns-in-Err-NotJson-clause-exact
returns-in-Err-NotJson-clause-exact c =
    let is = c.in-Err-NotJson.field-0-is in
    λ _. of_none c.args.setup.now _ (c.in-Err-NotJson.ensures.not_json (ap Err is))
