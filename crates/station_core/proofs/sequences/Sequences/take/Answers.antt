use Rattle.station_core.proofs.SlotLemmas.{series_at_read}
use Rattle.station_core.proofs.StationLemmas.{accepted_within, posting_taken}
use Rattle.station_core.proofs.sequences.Sequences.take.Goals as goal

pub returns-clause-held : goal.returns-clause-held
returns-clause-held g c =
    let here = series_at_read c.args.self.now _ _ _ c.self.view_is c.index_mut.ensures.value
    (accepted_within _ _ _ c.requires) in
    rw (here, c.take.ensures.held, c.self.view_is)

pub returns-clause-taken : goal.returns-clause-taken
returns-clause-taken g c = λ signs taken every. rw (returns-clause-held g c)
    (posting_taken signs taken _ _ _ _ every c.requires)
