use Rattle.nest_core.specs.StationName.{is_station_name}
use Rattle.nest_core.proofs.Positions.{passes_at}
use Rattle.line_files.proofs.gap.gap_line.Goals as goal

pub ended_line-requires : goal.ended_line-requires
ended_line-requires c =
    passes_at is_station_name c.setup-setup.result.now.stations c.args.station
    c.station_name.result.now c.is_museum.ensures.names c.station_name.ensures
