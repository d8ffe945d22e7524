use Rattle.std.proofs.Common.{◌∙◌, ◌≤◌, ap, arith, length, subst, sym, Some}
use Rattle.std.proofs.lemmas.Result.{IfOk-weaker}
use Rattle.nest_core.specs.Museum.{Museum}
use Rattle.nest_core.specs.declared.TheConstants.{MOST_STATIONS}
use Rattle.page_core.specs.Stations.{station_row_text}
use Rattle.reports.proofs.NumberedRows.{numbered, numbered_within}
use Rattle.page_core.proofs.stations.StationsRows.row.Goals as goal

pub overflow_cast-i : goal.overflow_cast-i
overflow_cast-i c =
    let B = c.args.self.now.ledger.now in
    let within = numbered_within (station_row_text B) 0 (length B.museum.stations) c.args.i
    c.requires in
    let few : length B.museum.stations ≤ 64 = subst (λ (S : Museum). length S.stations
    ≤ MOST_STATIONS) c.setup.ensures c.is_museum.ensures.few_stations in
    omega (arith, within, few)

pub station_row-requires : goal.station_row-requires
station_row-requires c =
    let B = c.args.self.now.ledger.now in
    numbered_within (station_row_text B) 0 (length B.museum.stations) c.args.i c.requires

pub returns : goal.returns
returns c =
    let B = c.args.self.now.ledger.now in
    let within = numbered_within (station_row_text B) 0 (length B.museum.stations) c.args.i
    c.requires in
    IfOk-weaker c.station_row.result _ _ (λ row is. numbered (station_row_text B)
    (length B.museum.stations) c.args.i within ∙ ap Some (sym is)) c.station_row.ensures
