use Rattle.std.specs.Prelude.{◌≡◌, true, false}
use Rattle.std.specs.List.{list_all}
use Rattle.std.proofs.Common.{◌∙◌, sym}
use Rattle.nest_core.specs.StationName.{is_station_name}
use Rattle.nest_core.proofs.Positions.{position_unlike}
use Rattle.nest_core.proofs.setup.Setup.station.Goals as goal

pub returns-in_err-name-clause-found : goal.returns-in_err-name-clause-found
returns-in_err-name-clause-found c =
    let names : list_all is_station_name c.args.self.now.stations ≡ true =
    rw (← c.self.view_is) c.self.invariant.names in
    let unlike : is_station_name c.args.name.now ≡ false =
    rw (← c.as_bytes.ensures.value) c.in_err-name.ensures.none in
    c.from_residual.ensures ∙ sym (position_unlike is_station_name c.args.self.now.stations
    c.args.name.now names unlike)
