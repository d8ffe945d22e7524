use Rattle.std.proofs.Common.{arith}
use Rattle.hub_core.proofs.RoomLemmas.{name_short, word_short, refused_fits, held_fits, no_fault}
use Rattle.hub_core.proofs.line.wording.add_answer.Goals as goal

pub returns-in-Refused-clause-fails : goal.returns-in-Refused-clause-fails
returns-in-Refused-clause-fails c = λ has.
    let short = name_short c.args.setup.now c.args.station c.station_name-name.result.now
    c.is_museum.ensures.names c.station_name-name.ensures in
    let brief = word_short _ _ c.name.ensures in
    no_fault c.add_refused.result _
    (c.add_refused.ensures.room (refused_fits _ _ has c.args.n (omega arith) _ _ short brief))

pub returns-in-Held-clause-fails : goal.returns-in-Held-clause-fails
returns-in-Held-clause-fails c = λ has.
    let short = name_short c.args.setup.now c.args.station c.station_name-name.result.now
    c.is_museum.ensures.names c.station_name-name.ensures in
    no_fault c.add_held.result _ (c.add_held.ensures.room
    (held_fits _ _ has c.args.n (omega arith) _ short))
