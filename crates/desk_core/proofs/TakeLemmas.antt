-- Lemmas on calls that take a line.
use Rattle.std.proofs.Common.{◌≡◌, ℕ, ◌++◌, ◌∷◌, [], false, List, Result, Ok, Err, inl, inr}
use Rattle.std.proofs.Common.{refl}
use Rattle.std.proofs.Common.{ap, sym, subst, ◌∙◌, append-nil, append_assoc, length, Bool, Option}
use Rattle.std.proofs.Common.{not, ◌&&◌}
use Rattle.std.specs.Result.{IsErrAnd}
use Rattle.std.specs.Io.KnownBytes.{Appends}
use Rattle.std.proofs.KnownBytes.{Appends-nil}
use Rattle.std.proofs.Math.Seq.{take-length}
use Rattle.nest_core.specs.Museum.{Museum}
use Rattle.posting_core.specs.Book.{Book, verdict_in}
use Rattle.posting_core.specs.declared.message.Message.{Message}
use Rattle.posting_core.specs.declared.verdict.Verdict.{Verdict}
use Rattle.posting_core.specs.Named.{thing_named}
use Rattle.reports.specs.Causes.{sentence}
use Rattle.reports.specs.Cells.{joined_words}
use Rattle.hub_core.specs.declared.hub.answer.Answer.{Answer}
use Rattle.hub_core.specs.LineText.{answer_text, station_text}
use Rattle.desk_core.specs.Answers.{answer_detail, detail_words, is_done, message_answer}
use Rattle.desk_core.specs.Answers.{Asks, IsAnswer, IsTold, without_feed}
use Rattle.desk_core.specs.Texts.{line_end}
use Rattle.posting_core.specs.declared.entry.Entry.{Entry}
use Rattle.register_store.specs.Holdings.{Holding}
use Rattle.hub_core.specs.declared.hub.answer.Arrival.{Arrival}
use Rattle.hub_core.specs.declared.hub.answer.HubFault.{HubFault}
use Rattle.hub_core.specs.Points.{posted, reply}
use Rattle.hub_core.specs.StandsFor.{State, StandsFor, TakesSome}
use Rattle.hub_core.proofs.StandLemmas.{takes_none}
use Rattle.desk_core.specs.Sent.{book, own_arrival, said_arrivals}
use Rattle.desk_core.specs.declared.bench.Bench.{Bench}
use Rattle.desk_core.specs.declared.said.Said.{Said}
use Rattle.desk_core.specs.declared.said.Said.TheVariants as says
use Rattle.desk_core.specs.declared.line_fault.LineFault.{LineFault}
use Rattle.desk_core.specs.declared.line_fault.LineFault.TheVariants.{Hub}
use Rattle.desk_core.specs.Logs.{log_text}
use Rattle.desk_core.specs.Sessions.{Leaves, Takes, TakesAndLogs}
use Rattle.desk_core.proofs.LogLemmas.{none_logged}

module _ {R T E : Type 0} {holding : R → Holding} {old new : State R}
    {IsAnswered : List Entry → List Arrival → Type 0}
    {sent : List Entry → List Arrival → List Arrival} where
  -- a call that failed
  pub failed : (r : Result T E) (P : E → Type 0) → IsErrAnd r P
      → new.book.museum ≡ old.book.museum → new.book.depth ≡ old.book.depth
      → ((O : List Entry) (A : List Arrival) → StandsFor holding old O A
      → TakesSome holding new O A (sent O A)) → Takes holding old new IsAnswered sent r
  failed (Ok x) P is museum depth some = absurd is
  failed (Err e) P is museum depth some =
      record { told = tt; fault = some; up = tt; museum = museum; depth = depth }

-- the same, and the hub did not change
pub unsent : {R T E : Type 0} {holding : R → Holding} {hub : State R}
    {IsAnswered : List Entry → List Arrival → Type 0}
    {sent : List Entry → List Arrival → List Arrival} (r : Result T E) (P : E → Type 0)
    → IsErrAnd r P → Takes holding hub hub IsAnswered sent r
unsent {holding = holding} {hub = hub} {sent = sent} r P is = failed r P is refl refl
    (λ O A st. takes_none holding hub O A (sent O A) st)

-- all arrivals are taken
pub takes_all : {R : Type 0} (holding : R → Holding) (hub : State R) (O : List Entry)
    (A sent : List Arrival) → StandsFor holding hub O (A ++ sent) → TakesSome holding hub O A sent
takes_all holding hub O A sent st =
    inl (
      length sent,
      subst (λ (B : List Arrival). StandsFor holding hub O (A ++ B))
          (sym (take-length sent)) st,
    )

-- a line that sends nothing is answered
pub quiet : {R T E : Type 0} {holding : R → Holding} {hub : State R}
    {IsAnswered : List Entry → List Arrival → Type 0}
    {sent : List Entry → List Arrival → List Arrival} (x : T) → hub.down ≡ false
    → ((O : List Entry) (A : List Arrival) → StandsFor holding hub O A
    → IsAnswered O A × (sent O A ≡ []))
    → Takes {E = E} holding hub hub IsAnswered sent (Ok x)
quiet {holding = holding} {hub = hub} x up answered = record {
  told = λ O A st. (
    (answered O A st).0,
    subst (λ (B : List Arrival). StandsFor holding hub O (A ++ B)) (sym (answered O A st).1)
        (subst (StandsFor holding hub O) (sym (append-nil A)) st),
  );
  fault = tt;
  up = up;
  museum = refl;
  depth = refl;
}

-- calls that keep the log
module _ {R T : Type 0} {holding : R → Holding} {old new : State R} {l l' : Option (List ℕ)}
    {station : ℕ} {IsAnswered : List Entry → List Arrival → Type 0}
    {sent : List Entry → List Arrival → List Arrival} where
  -- a call that failed
  pub line_failed : (r : Result T LineFault) (fault : LineFault) → IsErrAnd r (λ e. e ≡ fault)
      → new.book.museum ≡ old.book.museum → new.book.depth ≡ old.book.depth
      → ((O : List Entry) (A : List Arrival) → StandsFor holding old O A
      → Leaves holding new O A (sent O A) l l' []
      (log_text old.book.museum station (sent O A)) fault)
      → TakesAndLogs holding old new l l' station IsAnswered sent r
  line_failed (Ok x) fault is museum depth left = absurd is
  line_failed (Err e) fault is museum depth left = record {
    told = tt;
    fault = λ O A st. subst (λ (f : LineFault). Leaves holding new O A (sent O A) l l' []
        (log_text old.book.museum station (sent O A)) f) (sym is) (left O A st);
    up = tt;
    museum = museum;
    depth = depth;
  }

-- the same, and neither the hub nor the log changed
pub line_unsent : {R T : Type 0} {holding : R → Holding} {hub : State R} {l : Option (List ℕ)}
    {station : ℕ} {IsAnswered : List Entry → List Arrival → Type 0}
    {sent : List Entry → List Arrival → List Arrival} (r : Result T LineFault) (fault : LineFault)
    → IsErrAnd r (λ e. e ≡ fault)
    → TakesAndLogs holding hub hub l l station IsAnswered sent r
line_unsent {l = l} r fault is = line_failed r fault is refl refl
    (λ O A st. none_logged _ _ l fault st)

-- a line that sends nothing is answered
pub line_quiet : {R T : Type 0} {holding : R → Holding} {hub : State R} {l : Option (List ℕ)}
    {station : ℕ} {IsAnswered : List Entry → List Arrival → Type 0}
    {sent : List Entry → List Arrival → List Arrival} (x : T) → hub.down ≡ false
    → ((O : List Entry) (A : List Arrival) → StandsFor holding hub O A
    → IsAnswered O A × (sent O A ≡ []))
    → TakesAndLogs holding hub hub l l station IsAnswered sent (Ok x)
line_quiet {holding = holding} {hub = hub} {l = l} {station = station} x up answered = record {
  told = λ O A st. (
    (answered O A st).0,
    subst (λ (B : List Arrival). StandsFor holding hub O (A ++ B)) (sym (answered O A st).1)
        (subst (StandsFor holding hub O) (sym (append-nil A)) st),
    subst (λ (B : List Arrival). Appends l l (log_text hub.book.museum station B))
        (sym (answered O A st).1) (Appends-nil l),
  );
  fault = tt;
  up = up;
  museum = refl;
  depth = refl;
}

-- a line whose arrivals aren't logged
module _ {R T U : Type 0} {holding : R → Holding} {old new : State R} {l : Option (List ℕ)}
    {station : ℕ} {IsPassed IsAnswered : List Entry → List Arrival → Type 0}
    {sent : List Entry → List Arrival → List Arrival}
    (none : (O : List Entry) (A : List Arrival) → log_text old.book.museum station (sent O A) ≡ [])
  where
    pub line_passed : (x : T) (y : U)
        → ((O : List Entry) (A : List Arrival) → IsPassed O A → IsAnswered O A)
        → Takes {E = HubFault} holding old new IsPassed sent (Ok x)
        → TakesAndLogs holding old new l l station IsAnswered sent (Ok y)
    line_passed x y answers took = record {
      told = λ O A st. (
        answers O A (took.told O A st).0,
        (took.told O A st).1,
        subst (Appends l l) (sym (none O A)) (Appends-nil l),
      );
      fault = tt;
      up = took.up;
      museum = took.museum;
      depth = took.depth;
    }

    pub line_not_passed : (fault : HubFault) (r : Result U LineFault)
        → IsErrAnd r (λ e. e ≡ Hub fault)
        → Takes {T = T} holding old new IsPassed sent (Err fault)
        → TakesAndLogs holding old new l l station IsAnswered sent r
    line_not_passed fault r is took = line_failed r (Hub fault) is took.museum took.depth
        (λ O A st. inr (record {
          logged = subst (Appends l l) (sym (none O A)) (Appends-nil l);
          stands = took.fault O A st;
        }))

-- a ledger is its setup, its depth limit and its entries
pub same_book : (B : Book) (S : Museum) (d : ℕ) (P : List Entry) → B.museum ≡ S → B.depth ≡ d
    → B.posted ≡ P → B ≡ record { museum = S; depth = d; posted = P }
same_book B S d P museum depth posted =
    ap (λ (M : Museum). record { museum = M; depth = B.depth; posted = B.posted }) museum
    ∙ (ap (λ n. record { museum = S; depth = n; posted = B.posted }) depth
    ∙ ap (λ (Q : List Entry). record { museum = S; depth = d; posted = Q }) posted)

-- the ledger of a hub that stands for the arrivals
pub book_of : {R : Type 0} (holding : R → Holding) (hub : State R) (O : List Entry)
    (A : List Arrival) → StandsFor holding hub O A
    → hub.book ≡ book hub.book.museum hub.book.depth O A
book_of holding hub O A st = same_book hub.book _ _ _ refl refl st.list

-- the answer to a message, put together from what the code has
pub answered_as : (S : Museum) (depth : ℕ) (O : List Entry) (A : List Arrival) (s : ℕ)
    (has_bell : Bool) (m : Message) (n : ℕ) (answer : Answer) (verdict : Verdict)
    (thing : Option (List ℕ)) (cause : List ℕ) (T : Museum) (P : List Entry) (after : Book)
    → answer ≡ reply S depth O A (own_arrival S depth O A s m)
    → cause ≡ joined_words (sentence (book S depth O A) m verdict)
    → verdict ≡ verdict_in (book S depth O A) m → thing ≡ thing_named m → T ≡ S
    → P ≡ posted S depth O (A ++ own_arrival S depth O A s m ∷ [])
    → after ≡ book S depth O (A ++ own_arrival S depth O A s m ∷ [])
    → n ≡ (own_arrival S depth O A s m).n
    → without_feed (answer_text (station_text T s) n P answer)
    ++ (answer_detail answer (detail_words after verdict thing cause)
    ++ line_end (has_bell && not (is_done answer verdict)))
    ≡ message_answer S depth O A s has_bell m
answered_as S depth O A s has_bell m n answer verdict thing cause T P after is_answer is_cause
    is_verdict is_thing is_museum is_posted is_book is_next =
    rw (
      is_answer,
      is_cause,
      is_verdict,
      is_thing,
      is_museum,
      is_posted,
      is_book,
      is_next,
    ) refl

pub three_parts : (old one two three : List ℕ)
    → ((old ++ one) ++ two) ++ three ≡ old ++ (one ++ (two ++ three))
three_parts old one two three =
    append_assoc (old ++ one) two three ∙ append_assoc old one (two ++ three)

-- the entries of a hub that stands for the arrivals, with the setup and the depth limit of the
-- start
pub entries_of : {R : Type 0} (holding : R → Holding) (hub : State R) (S : Museum) (depth : ℕ)
    (O : List Entry) (A : List Arrival) → hub.book.museum ≡ S → hub.book.depth ≡ depth
    → StandsFor holding hub O A → hub.book.posted ≡ posted S depth O A
entries_of holding hub S depth O A museum limit st =
    st.list ∙ (ap (λ (M : Museum). posted M hub.book.depth O A) museum
    ∙ ap (λ n. posted S n O A) limit)

-- a line that sends nothing
module _ (S : Museum) (depth : ℕ) (O : List Entry) (A : List Arrival) where
  pub told_here : (asks : Asks) (bench : Bench) (number : ℕ) (line : List ℕ) (said : Said)
      (text : List ℕ)
      → ((m : Message) → said ≡ says.Message m → ⊥) → (said ≡ says.Line → ⊥)
      → IsAnswer asks (book S depth O A) bench line said text
      → IsTold S depth O A asks bench number line said text
  told_here asks bench number line says.Nothing text a b is = is
  told_here asks bench number line says.Help text a b is = is
  told_here asks bench number line (says.Target target) text a b is = is
  told_here asks bench number line (says.Day day) text a b is = is
  told_here asks bench number line (says.Message m) text a b is = absurd (a m refl)
  told_here asks bench number line says.Line text a b is = absurd (b refl)
  told_here asks bench number line (says.Report words) text a b is = is
  told_here asks bench number line (says.Rejected rejection) text a b is = is

  pub none_sent : (s : ℕ) (line : List ℕ) (said : Said)
      → ((m : Message) → said ≡ says.Message m → ⊥) → (said ≡ says.Line → ⊥)
      → said_arrivals S depth O A s line said ≡ []
  none_sent s line says.Nothing a b = refl
  none_sent s line says.Help a b = refl
  none_sent s line (says.Target target) a b = refl
  none_sent s line (says.Day day) a b = refl
  none_sent s line (says.Message m) a b = absurd (a m refl)
  none_sent s line says.Line a b = absurd (b refl)
  none_sent s line (says.Report words) a b = refl
  none_sent s line (says.Rejected rejection) a b = refl
