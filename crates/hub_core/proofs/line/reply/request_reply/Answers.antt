use Rattle.std.proofs.Common.{arith, sym, true≢false}
use Rattle.hub_core.proofs.RoomLemmas.{unknown_fits}
use Rattle.hub_core.proofs.line.reply.request_reply.Goals as goal

pub returns-in-Some-clause-served : goal.returns-in-Some-clause-served
returns-in-Some-clause-served g c = rw c.in-Some.is c.station_reply.ensures.served

pub returns-in-Some-clause-fails : goal.returns-in-Some-clause-fails
returns-in-Some-clause-fails g c = rw c.in-Some.is c.station_reply.ensures.fails

pub returns-in_err-add_unknown_station-in-None-clause-fails :
    goal.returns-in_err-add_unknown_station-in-None-clause-fails
returns-in_err-add_unknown_station-in-None-clause-fails g c =
    absurd (true≢false
    (sym (c.in_err-add_unknown_station-in-None.ensures.room
    (unknown_fits _ _ c.requires.room c.args.number (omega arith)))))

pub returns-in-Some-clause-outcomes : goal.returns-in-Some-clause-outcomes
returns-in-Some-clause-outcomes g c = rw c.in-Some.is c.station_reply.ensures.outcomes
