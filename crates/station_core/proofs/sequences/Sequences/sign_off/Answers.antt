use Rattle.station_core.proofs.SlotLemmas.{series_at_read}
use Rattle.station_core.proofs.StationLemmas.{all_closed}
use Rattle.station_core.proofs.sequences.Sequences.sign_off.Goals as goal

pub returns-clause-closed : goal.returns-clause-closed
returns-clause-closed g c =
    let here = series_at_read c.args.self.now _ _ _ c.self.view_is c.index_mut.ensures.value
    c.requires in
    rw (here, c.sign_off.ensures, c.self.view_is)

pub returns-clause-taken : goal.returns-clause-taken
returns-clause-taken g c = λ signs taken ending. rw (returns-clause-closed g c)
    (all_closed signs taken _ _ ending)
