use Rattle.std.proofs.Common.{ap, Err}
use Rattle.std.proofs.lemmas.Str.{is_utf8-from_IsUtf8}
use Rattle.hub_core.proofs.RequestLemmas.{request_of_value, request_of_none}
use Rattle.hub_core.proofs.line.request.read_request_with.Goals as goal

pub returns-in-Ok : goal.returns-in-Ok
returns-in-Ok c =
    let same = request_of_value _ _ (is_utf8-from_IsUtf8 _ c.in-Ok.ensures.ok.0)
    c.in-Ok.ensures.ok.1 in
    record { exact = rw same c.object_of.ensures.exact }

pub returns-in-Err-NotJson : goal.returns-in-Err-NotJson
returns-in-Err-NotJson c =
    let is = c.in-Err-NotJson.field-0-is in
    record { exact = λ _. request_of_none _ (c.in-Err-NotJson.ensures.not_json (ap Err is)) }
