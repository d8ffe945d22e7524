use Rattle.std.proofs.Common.{◌≡◌, true, is_some}
use Rattle.serde_json.specs.Find.{as_object}
use Rattle.hub_core.proofs.RequestLemmas.{of_object}
use Rattle.hub_core.proofs.line.request.line_of.Goals as goal

pub returns-clause-exact : goal.returns-clause-exact
returns-clause-exact g c =
    let d = g.V.Fields.seen c.args.value.now in
    let tested = c.has_members.ensures in
    let holds = c.if-not-has_members.ensures in
    let object : is_some (as_object d) ≡ true = cc in
    rw c.station-station.ensures.found
    (of_object c.args.setup.now d _ _ object c.in_ok-string_at.ensures.exact
    c.in_ok-request.ensures.exact)
