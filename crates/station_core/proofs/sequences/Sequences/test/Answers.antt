use Rattle.std.proofs.Common.{◌≡◌, ◌∙◌, Some, refl, slice_get}
use Rattle.std.proofs.lemmas.Option.{slice_get_read}
use Rattle.station_core.proofs.StationLemmas.{refusal_agrees}
use Rattle.station_core.proofs.sequences.Sequences.test.Goals as goal

pub returns-in-Some-clause-table : goal.returns-in-Some-clause-table
returns-in-Some-clause-table g c =
    let read = c.in-Some.ensures.lookup in
    let there : slice_get c.args.self.now c.args.s ≡ Some c.in-Some.station.now =
    rw (← c.self.view_is, ← c.deref.ensures.value)
    (slice_get_read _ _ _ _ refl read.3.0 read.1) in
    rw there c.test.ensures

pub returns-in-Some-clause-taken : goal.returns-in-Some-clause-taken
returns-in-Some-clause-taken g c = λ signs taken every. returns-in-Some-clause-table g c
    ∙ refusal_agrees signs taken _ _ _ every
