use Rattle.std.proofs.Common.{◌≡◌, None, List, Option, ap, rules}
use Rattle.circular_buffer.specs.Buffer.{buffer}
use Rattle.station_core.proofs.SlotLemmas.{moves_alone}
use Rattle.station_core.proofs.series.take_first.Goals as goal

pub returns-then-is_last-clause-moved : goal.returns-then-is_last-clause-moved
returns-then-is_last-clause-moved g c =
    let taken : c.take.new.self ≡ None = search rules in
    ap (λ (xs : List (Option g.row.M.Denot)). buffer xs c.args.slots.now.capacity)
    (moves_alone c.args.slots.now.items c.take.new.self c.requires.some taken
    (c.requires.last c.if-is_last.true))
