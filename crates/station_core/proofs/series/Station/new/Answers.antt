use Rattle.std.proofs.Common.{Option, arith, ◌∙◌, ap, sym}
use Rattle.circular_buffer.specs.Buffer.{Buffer}
use Rattle.station_core.proofs.SlotLemmas.{window_is, fits_empty}
use Rattle.station_core.proofs.series.Station.new.Goals as goal

pub invariant_of-result : goal.invariant_of-result
invariant_of-result g c =
    let room = ap (λ (b : Buffer (Option g.row.M.Denot)). b.capacity) c.in_ok-slots.ensures
    ∙ sym window_is in
    fits_empty _ _ _ _ (omega arith) (omega arith) room c.fill_empty.ensures
