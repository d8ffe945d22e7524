use Rattle.station_core.proofs.SlotLemmas.{series_at_read}
use Rattle.station_core.proofs.StationLemmas.{counted_among, unchanged_among, due_among}
use Rattle.station_core.proofs.StationLemmas.{posted_among, stays_among}
use Rattle.station_core.proofs.sequences.Sequences.next_due.Goals as goal

pub returns-clause-none : goal.returns-clause-none
returns-clause-none g c =
    let here = series_at_read c.args.self.now _ _ _ c.self.view_is c.index_mut.ensures.value
    c.requires in
    unchanged_among _ _ _ _ _ _ c.self.view_is here c.index_mut.ensures.value
    c.next_due.ensures.none

pub returns-clause-message : goal.returns-clause-message
returns-clause-message g c =
    let here = series_at_read c.args.self.now _ _ _ c.self.view_is c.index_mut.ensures.value
    c.requires in
    rw here c.next_due.ensures.message

pub returns-clause-number : goal.returns-clause-number
returns-clause-number g c =
    let here = series_at_read c.args.self.now _ _ _ c.self.view_is c.index_mut.ensures.value
    c.requires in
    rw here c.next_due.ensures.number

pub returns-clause-counted : goal.returns-clause-counted
returns-clause-counted g c =
    let here = series_at_read c.args.self.now _ _ _ c.self.view_is c.index_mut.ensures.value
    c.requires in
    counted_among _ _ _ _ _ _ c.self.view_is here c.next_due.ensures.counted

pub returns-clause-stays : goal.returns-clause-stays
returns-clause-stays g c = stays_among _ _ _ _ c.requires (returns-clause-counted g c)

pub returns-clause-due : goal.returns-clause-due
returns-clause-due g c = due_among _ _ _ _ (returns-clause-message g c) (returns-clause-number g c)
    (returns-clause-counted g c)

pub returns-clause-posted : goal.returns-clause-posted
returns-clause-posted g c = posted_among _ _ _ _ (returns-clause-none g c)
