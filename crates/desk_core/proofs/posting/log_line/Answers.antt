use Rattle.desk_core.proofs.LogLemmas.{named}
use Rattle.desk_core.proofs.posting.log_line.Goals as goal

pub sent_line-requires : goal.sent_line-requires
sent_line-requires c =
    named c.args.setup.now c.args.station c.station_name.result.now c.is_museum.ensures
    c.station_name.ensures
