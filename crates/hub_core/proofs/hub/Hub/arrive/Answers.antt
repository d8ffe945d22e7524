use Rattle.std.proofs.Common.{◌≡◌, ◌∙◌, ◌<◌, ◌++◌, ◌∷◌, [], sym, ap, subst, refl, length, List, ℕ}
use Rattle.std.proofs.Common.{false, true≢false}
use Rattle.std.proofs.lemmas.Bool.{false≢true}
use Rattle.posting_core.specs.declared.entry.Entry.{Entry}
use Rattle.posting_core.specs.declared.message.Message.{Message}
use Rattle.posting_core.specs.Messages.{is_sign_off}
use Rattle.station_core.specs.Series.{series_at, Series, with_held}
use Rattle.station_core.proofs.StationLemmas.{accepted_within}
use Rattle.hub_core.specs.declared.hub.answer.Arrival.{Arrival}
use Rattle.hub_core.specs.declared.hub.answer.Answer.TheVariants.{Refused, Posted}
use Rattle.hub_core.specs.Points.{reply, due_with}
use Rattle.hub_core.specs.StandsFor.{State, StandsFor, Stopped}
use Rattle.hub_core.proofs.PostLemmas.{written, step_held, taken_unsigned}
use Rattle.hub_core.proofs.ReopenLemmas.{grown_on}
use Rattle.hub_core.proofs.StandLemmas.{refused_by, stands_refused, stands_taken, stands_stopped}
use Rattle.hub_core.proofs.StandLemmas.{reply_due, reply_counted, length_back}
use Rattle.hub_core.proofs.hub.Hub.arrive.Goals as goal

pub returns-in-Some-clause-headline : goal.returns-in-Some-clause-headline
returns-in-Some-clause-headline g c =
    let hub : State g.row.R.Denot =
    record {
      sequences = c.self.inside.sequences;
      book = c.self.inside.ledger;
      register = c.self.inside.register;
      down = c.self.inside.down;
    } in
    subst (λ (h : State g.row.R.Denot). (O : List Entry) (A : List Arrival)
    → StandsFor g.R.Register.holding h O A
    → (Refused c.in-Some.refusal ≡ reply h.book.museum h.book.depth O A c.args.arrival)
    × StandsFor g.R.Register.holding h O (A ++ c.args.arrival ∷ [])) c.self.view_is
    (λ O A st. stands_refused g.R.Register.holding hub O A c.args.arrival c.in-Some.refusal st
    (refused_by hub O A c.args.arrival _ _ (c.self.invariant.0 c.if-self.false)
    (c.test.ensures.taken is_sign_off _ st.series) c.in-Some.is))

pub returns-in-Some-clause-closed : goal.returns-in-Some-clause-closed
returns-in-Some-clause-closed g c = λ _. refl

pub returns-in-Some-clause-refused : goal.returns-in-Some-clause-refused
returns-in-Some-clause-refused g c = λ _ _. refl

pub returns-in-Some-clause-count : goal.returns-in-Some-clause-count
returns-in-Some-clause-count g c = refl

pub returns-in-Some-clause-museum : goal.returns-in-Some-clause-museum
returns-in-Some-clause-museum g c = refl

pub returns-in-Some-clause-depth : goal.returns-in-Some-clause-depth
returns-in-Some-clause-depth g c = refl

pub take-requires : goal.take-requires
take-requires g c = sym c.test.ensures.table ∙ c.in_default.is

pub post_due-requires-clause-known : goal.post_due-requires-clause-known
post_due-requires-clause-known g c =
    let all = c.self.inside.sequences in
    let s = c.args.arrival.station in
    let within : s < length all = accepted_within all s c.args.arrival.n
    (sym c.test.ensures.table ∙ c.in_default.is) in
    let is = written all c.take.new.self s
    (with_held (series_at all s) c.args.arrival.n c.args.arrival.message) within
    c.take.ensures.held in
    subst (λ n. s < n) (sym is.same_length) within

pub post_due-requires-clause-unsigned : goal.post_due-requires-clause-unsigned
post_due-requires-clause-unsigned g c =
    let all = c.self.inside.sequences in
    let s = c.args.arrival.station in
    let refused = sym c.test.ensures.table ∙ c.in_default.is in
    let within : s < length all = accepted_within all s c.args.arrival.n refused in
    let is = written all c.take.new.self s
    (with_held (series_at all s) c.args.arrival.n c.args.arrival.message) within
    c.take.ensures.held in
    ap (λ (x : Series Message). x.signed) is.here ∙ taken_unsigned all s c.args.arrival.n refused

pub post_due-requires-clause-in_step : goal.post_due-requires-clause-in_step
post_due-requires-clause-in_step g c =
    let all = c.self.inside.sequences in
    let s = c.args.arrival.station in
    let within : s < length all = accepted_within all s c.args.arrival.n
    (sym c.test.ensures.table ∙ c.in_default.is) in
    let is = written all c.take.new.self s
    (with_held (series_at all s) c.args.arrival.n c.args.arrival.message) within
    c.take.ensures.held in
    step_held c.self.inside.ledger.museum c.self.inside.ledger.posted all c.take.new.self s _
    (c.self.invariant.0 c.if-self.false) within is refl refl

pub returns-clause-headline : goal.returns-clause-headline
returns-clause-headline g c =
    let hub : State g.row.R.Denot =
    record {
      sequences = c.self.inside.sequences;
      book = c.self.inside.ledger;
      register = c.self.inside.register;
      down = c.self.inside.down;
    } in
    let new : State g.row.R.Denot =
    record {
      sequences = c.post_due.new.sequences;
      book = c.post_due.new.ledger;
      register = c.post_due.new.register;
      down = c.self.inside.down;
    } in
    let step = c.self.invariant.0 c.if-self.false in
    let due = c.in_default-post_due.ensures in
    subst (λ (h : State g.row.R.Denot). (O : List Entry) (A : List Arrival)
    → StandsFor g.R.Register.holding h O A
    → (c.answer_from.result ≡ reply h.book.museum h.book.depth O A c.args.arrival)
    × StandsFor g.R.Register.holding new O (A ++ c.args.arrival ∷ [])) c.self.view_is
    (λ O A st.
    let h = stands_taken g.R.Register.holding hub new c.take.new.self O A c.args.arrival st
    step.stations
    (refused_by hub O A c.args.arrival _ _ step (c.test.ensures.taken is_sign_off _ st.series)
    c.in_default.is)
    c.if-self.false due.museum due.depth c.take.ensures.held (c.take.ensures.taken is_sign_off)
    due.posted.done due.posted.stored in (
      c.answer_from.ensures ∙ (reply_counted (length hub.book.posted) (length new.book.posted)
          (length c.posted.result.now) (length c.posted-2.result.now)
          (length_back c.posted.result.now hub.book.posted c.posted.ensures)
          (length_back c.posted-2.result.now new.book.posted c.posted-2.ensures) ∙ h.0),
      h.1,
    ))

pub returns-in-Err-clause-after_fault : goal.returns-in-Err-clause-after_fault
returns-in-Err-clause-after_fault g c =
    let hub : State g.row.R.Denot =
    record {
      sequences = c.self.inside.sequences;
      book = c.self.inside.ledger;
      register = c.self.inside.register;
      down = c.self.inside.down;
    } in
    let step = c.self.invariant.0 c.if-self.false in
    subst (λ (h : State g.row.R.Denot). (O : List Entry) (A : List Arrival)
    → StandsFor g.R.Register.holding h O A
    → Stopped (g.R.Register.holding c.post_due.new.register) h.book.museum h.book.depth
    h.book.posted (due_with h.book.museum h.book.depth O A c.args.arrival)
    c.post_due.new.ledger.posted) c.self.view_is
    (λ O A st. stands_stopped g.R.Register.holding hub
    (g.R.Register.holding c.post_due.new.register) c.take.new.self c.post_due.new.ledger.posted
    O A c.args.arrival st step.stations
    (refused_by hub O A c.args.arrival _ _ step (c.test.ensures.taken is_sign_off _ st.series)
    c.in_default.is)
    c.take.ensures.held (c.take.ensures.taken is_sign_off) c.in-Err.ensures.stopped.stopped)

pub returns-in-Err-clause-answers : goal.returns-in-Err-clause-answers
returns-in-Err-clause-answers g c =
    let hub : State g.row.R.Denot =
    record {
      sequences = c.self.inside.sequences;
      book = c.self.inside.ledger;
      register = c.self.inside.register;
      down = c.self.inside.down;
    } in
    let step = c.self.invariant.0 c.if-self.false in
    subst (λ (h : State g.row.R.Denot). (O : List Entry) (A : List Arrival)
    → StandsFor g.R.Register.holding h O A
    → (first : ℕ) × (last : ℕ)
    × (reply h.book.museum h.book.depth O A c.args.arrival ≡ Posted first last)) c.self.view_is
    (λ O A st.
    let none = refused_by hub O A c.args.arrival _ _ step
    (c.test.ensures.taken is_sign_off _ st.series) c.in_default.is in
    let stop = stands_stopped g.R.Register.holding hub
    (g.R.Register.holding c.post_due.new.register) c.take.new.self c.post_due.new.ledger.posted
    O A c.args.arrival st step.stations none
    c.take.ensures.held (c.take.ensures.taken is_sign_off) c.in-Err.ensures.stopped.stopped in
    reply_due hub.book.museum hub.book.depth O A c.args.arrival stop.done stop.next stop.rest
    none stop.all)

pub returns-in-Err-clause-fault : goal.returns-in-Err-clause-fault
returns-in-Err-clause-fault g c = refl

pub returns-in-Err-clause-closed : goal.returns-in-Err-clause-closed
returns-in-Err-clause-closed g c =
    let up : c.args.self.now.down ≡ false =
    subst (λ (h : State g.row.R.Denot). h.down ≡ false) c.self.view_is c.if-self.false in
    λ down. absurd (false≢true (sym up ∙ down))

pub returns-in-Err-clause-museum : goal.returns-in-Err-clause-museum
returns-in-Err-clause-museum g c =
    c.in-Err.ensures.museum ∙ ap (λ (h : State g.row.R.Denot). h.book.museum) c.self.view_is

pub returns-in-Err-clause-depth : goal.returns-in-Err-clause-depth
returns-in-Err-clause-depth g c =
    c.in-Err.ensures.depth ∙ ap (λ (h : State g.row.R.Denot). h.book.depth) c.self.view_is

pub invariant_of-self : goal.invariant_of-self
invariant_of-self g c = (
  λ up. absurd (true≢false up),
  c.in-Err.ensures.bound,
  λ up. absurd (true≢false up),
  λ _. c.in-Err.ensures.stopped.lawful (c.self.invariant.2 c.if-self.false),
  grown_on c.self.inside.ledger c.post_due.new.ledger c.in-Err.ensures.museum
      c.in-Err.ensures.longer c.self.invariant.4,
)

pub returns-clause-closed : goal.returns-clause-closed
returns-clause-closed g c =
    let up : c.args.self.now.down ≡ false =
    subst (λ (h : State g.row.R.Denot). h.down ≡ false) c.self.view_is c.if-self.false in
    λ down. absurd (false≢true (sym up ∙ down))

pub returns-clause-count : goal.returns-clause-count
returns-clause-count g c = c.in_default-post_due.ensures.count
    ∙ ap (λ (h : State g.row.R.Denot). g.R.Register.refusals h.register) c.self.view_is

pub returns-clause-museum : goal.returns-clause-museum
returns-clause-museum g c = c.in_default-post_due.ensures.museum
    ∙ ap (λ (h : State g.row.R.Denot). h.book.museum) c.self.view_is

pub returns-clause-depth : goal.returns-clause-depth
returns-clause-depth g c = c.in_default-post_due.ensures.depth
    ∙ ap (λ (h : State g.row.R.Denot). h.book.depth) c.self.view_is
