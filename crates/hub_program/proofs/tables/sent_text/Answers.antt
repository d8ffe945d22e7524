use Rattle.nest_core.specs.StationName.{is_station_name}
use Rattle.nest_core.proofs.Positions.{passes_at}
use Rattle.hub_program.proofs.tables.sent_text.Goals as goal

pub lines_text-requires : goal.lines_text-requires
lines_text-requires c =
    passes_at is_station_name c.args.setup.now.stations c.args.station
    c.station_name.result.now c.is_museum.ensures.names c.station_name.ensures
