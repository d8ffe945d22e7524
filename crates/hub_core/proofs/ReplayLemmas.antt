-- A replay, line by line.
use Rattle.std.proofs.Common.{◌≡◌, ℕ, ◌+◌, ◌-◌, ◌^◌, ◌≤◌, Bool, true, false, List, [], ◌∷◌, ◌++◌}
use Rattle.std.proofs.Common.{length, take, Option, None, Some, Result, Ok, Err, refl, ap, ◌∙◌, sym}
use Rattle.std.proofs.Common.{subst, arith, append_assoc, append-nil, true≢false, not}
use Rattle.std.specs.Prelude.{OnSome, IfSome, IfErr, min}
use Rattle.std.specs.Result.{IsErrAnd}
use Rattle.std.specs.Io.KnownBytes.{Appends, Consumes, Keeps, IsAtEnd}
use Rattle.std.proofs.KnownBytes.{Consumes-nil, Consumes-trans, Appends-nil, Appends-trans}
use Rattle.std.proofs.lemmas.Bool.{not-true}
use Rattle.nest_core.specs.Museum.{Museum}
use Rattle.posting_core.specs.declared.entry.Entry.{Entry}
use Rattle.hub_core.specs.declared.hub.answer.Arrival.{Arrival}
use Rattle.hub_core.specs.declared.hub.answer.HubFault.{HubFault}
use Rattle.hub_core.specs.declared.hub.answer.HubFault.TheVariants as hub_faults
use Rattle.hub_core.specs.declared.replay_fault.ReplayFault.{ReplayFault}
use Rattle.hub_core.specs.declared.replay_fault.ReplayFault.TheVariants.{NoMemory, Store}
use Rattle.hub_core.specs.declared.replay_fault.ReplayFault.TheVariants.{ReadFailed, WriteFailed}
use Rattle.hub_core.specs.declared.line.bytes.TheConstants.{MOST_KEPT}
use Rattle.hub_core.specs.declared.line.reply.TheConstants.{LONGEST_LINE}
use Rattle.hub_core.specs.Reading.{HasNoFeed, feed_if, TakesLine, TakesStart}
use Rattle.hub_core.specs.Lines.{lines, ended, without_return}
use Rattle.hub_core.specs.LineText.{text, arrivals, line_reply, line_arrivals}
use Rattle.hub_core.specs.declared.outcome.Outcome.{Outcome}
use Rattle.hub_core.specs.declared.line.reply.Reply.{Reply}
use Rattle.hub_core.specs.Outcomes.{outcomes, line_outcomes, reply_outcomes, Watched}
use Rattle.register_store.specs.Holdings.{Holding}
use Rattle.hub_core.specs.StandsFor.{State, StandsFor, TakesSome}
use Rattle.hub_core.specs.Faults.{replay_fault, CountsStore, CountsReplay}
use Rattle.hub_core.specs.Replayed.{lines_read, Answered, CutShort, BrokenOff, AfterFault}
use Rattle.hub_core.specs.Replayed.{EndsReplay}
use Rattle.hub_core.proofs.LineLemmas.{IsWhole, whole_none, whole_more, ended_whole}
use Rattle.hub_core.proofs.ReplyLemmas.{text_more, outcomes_more, arrivals_more, count_more}
use Rattle.hub_core.proofs.ReplyLemmas.{one_start, one_line, one_arrivals}
use Rattle.hub_core.proofs.KeptLemmas.{kept_reply, kept_outcomes, kept_arrivals}
use Rattle.hub_core.proofs.FeedLemmas.{end_after}
use Rattle.hub_core.proofs.StandLemmas.{takes_none}
use Rattle.hub_core.proofs.Written.{appends_kept}
use Rattle.std.proofs.Math.Seq.{take-append_seam, take-append-add}

-- whole lines are read and answered
pub record Underway {Q : Type 0} (S : Museum) (depth : ℕ) (O : List Entry) (A : List Arrival)
    (i i' o o' : Option (List ℕ)) (holding : Q → Holding) (hub : State Q) (next : ℕ) : Type 0 where
  pub bytes : List ℕ
  pub read : Consumes i i' bytes
  pub whole : IsWhole bytes
  pub written : Appends o o' (text S depth O A bytes)
  pub stands : StandsFor holding hub O (A ++ arrivals S bytes)
  pub number : next ≡ length (lines bytes) + 1

pub under_start : {Q : Type 0} (S : Museum) (depth : ℕ) (O : List Entry) (A : List Arrival)
    (i o : Option (List ℕ)) (holding : Q → Holding) (hub : State Q) → StandsFor holding hub O A
    → Underway S depth O A i i o o holding hub 1
under_start S depth O A i o holding hub st = record {
  bytes = [];
  read = Consumes-nil i;
  whole = whole_none;
  written = Appends-nil o;
  stands = subst (StandsFor holding hub O) (sym (append-nil A)) st;
  number = refl;
}

-- and a watch has seen their outcomes
pub record UnderWatch {Q : Type 0} (S : Museum) (depth : ℕ) (O : List Entry) (A : List Arrival)
    (i i' o o' : Option (List ℕ)) (holding : Q → Holding) (hub : State Q) (next : ℕ)
    (had_seen has_seen : List Outcome → Type 0) : Type 0 where
  pub under : Underway S depth O A i i' o o' holding hub next
  pub seen : (before : List Outcome) → had_seen before
      → has_seen (before ++ outcomes S depth O A under.bytes)

pub watch_start : {Q : Type 0} (S : Museum) (depth : ℕ) (O : List Entry) (A : List Arrival)
    (i o : Option (List ℕ)) (holding : Q → Holding) (hub : State Q) (has_seen : List Outcome
    → Type 0) → StandsFor holding hub O A
    → UnderWatch S depth O A i i o o holding hub 1 has_seen has_seen
unfolding under_start
watch_start S depth O A i o holding hub has_seen st = record {
  under = under_start S depth O A i o holding hub st;
  seen = λ before h. subst has_seen (sym (append-nil before)) h;
}

whole_is_ended : (c : List ℕ) → IsWhole c → ended c ≡ c
whole_is_ended c w = ap ended (sym (append-nil c)) ∙ ended_whole c [] w tt

lines_now : (c p : List ℕ) (fed : Bool) → IsWhole c → HasNoFeed p
    → lines_read (not fed) (c ++ (p ++ feed_if fed)) ≡ c ++ (p ++ feed_if fed)
lines_now c p true w h = whole_is_ended (c ++ (p ++ 10 ∷ [])) (whole_more c p w h)
lines_now c p false w h = refl

-- whole lines after whole lines
more_whole : (c p : List ℕ) (fed : Bool) → IsWhole c → HasNoFeed p → fed ≡ true
    → IsWhole (c ++ (p ++ feed_if fed))
more_whole c p true w h e = whole_more c p w h
more_whole c p false w h e = absurd (true≢false (sym e))

more_lines : (c p : List ℕ) (fed : Bool) → IsWhole c → HasNoFeed p → fed ≡ true
    → length (lines (c ++ (p ++ feed_if fed))) ≡ length (lines c) + 1
more_lines c p true w h e = count_more c p w h
more_lines c p false w h e = absurd (true≢false (sym e))

-- the state after a fault of the hub
pub after_hub_fault : {Q : Type 0} (S : Museum) (depth : ℕ) (O : List Entry) (A : List Arrival)
    (i i' o o' : Option (List ℕ)) (holding : Q → Holding) (hub : State Q) (fault : HubFault)
    → BrokenOff S depth O A i i' o o' holding hub
    → AfterFault S depth O A i i' o o' holding hub (replay_fault fault)
after_hub_fault S depth O A i i' o o' holding hub hub_faults.NoMemory broken = broken
after_hub_fault S depth O A i i' o o' holding hub hub_faults.Store broken = broken
after_hub_fault S depth O A i i' o o' holding hub hub_faults.Down broken = broken

-- the next line is read, and nothing is written
pub record LineRead (i i' o o' : Option (List ℕ)) (held : List ℕ) (fed : Bool) : Type 0 where
  pub most : ℕ
  pub enough : LONGEST_LINE + 2 ≤ most
  pub takes : TakesLine i i' most held fed
  pub keeps : Keeps o o'

pub line_read : (i i' o o' : Option (List ℕ)) (held : List ℕ) (fed : Bool)
    → TakesLine i i' MOST_KEPT held fed → Keeps o o' → LineRead i i' o o' held fed
line_read i i' o o' held fed takes keeps =
    record { most = MOST_KEPT; enough = omega arith; takes = takes; keeps = keeps }

-- the line is taken, with this reply
pub record LineTold {Q : Type 0} (S : Museum) (depth : ℕ) (O : List Entry) (A : List Arrival)
    (number : ℕ) (line : List ℕ) (holding : Q → Holding) (new : State Q) (reply : List ℕ) :
    Type 0 where
  pub told : reply ≡ line_reply S depth O A number line
  pub stands : StandsFor holding new O (A ++ line_arrivals S line)

-- the next line, with its reply
module _ {Q : Type 0} {S : Museum} {depth : ℕ} {O : List Entry} {A : List Arrival}
    {i i1 o o1 : Option (List ℕ)} {holding : Q → Holding} {hub : State Q} {number : ℕ}
    (u : Underway S depth O A i i1 o o1 holding hub number) where
  whole_ended : ended u.bytes ≡ u.bytes
  whole_ended = whole_is_ended u.bytes u.whole

  -- all lines read are answered, and no more is read
  pub read_out : Answered S depth O A i i1 o o1 holding hub false
  read_out =
      let same : u.bytes ≡ ended u.bytes = sym whole_ended in
      record {
        bytes = u.bytes;
        read = u.read;
        end = λ e. absurd (true≢false (sym e));
        written = subst (λ (c : List ℕ). Appends o o1 (text S depth O A c)) same u.written;
        stands = subst (λ (c : List ℕ). StandsFor holding hub O (A ++ arrivals S c)) same u.stands;
      }

  all_written : (o2 : Option (List ℕ)) → Keeps o1 o2 → Appends o o2 (text S depth O A u.bytes)
  all_written o2 k = appends_kept o o1 o2 _ u.written k

  module _ (i2 o2 : Option (List ℕ)) (t : TakesStart i1 i2) (k : Keeps o1 o2) where
    broken_before : BrokenOff S depth O A i i2 o o2 holding hub
    broken_before = record {
      before = u.bytes;
      line = t.0;
      read = Consumes-trans i i1 i2 u.bytes t.0 u.read t.1;
      whole = whole_ended;
      one = one_start t.0 t.2;
      written = all_written o2 k;
      stands = takes_none holding hub O (A ++ arrivals S u.bytes) (arrivals S t.0) u.stands;
    }

    -- a fault before the line has ended
    pub fault_line : (fault : ReplayFault) → AfterFault S depth O A i i2 o o2 holding hub fault
    fault_line NoMemory = broken_before
    fault_line Store = broken_before
    fault_line ReadFailed =
        let same : u.bytes ≡ ended (u.bytes ++ t.0) = sym (ended_whole u.bytes t.0 u.whole t.2) in
        record {
          bytes = u.bytes ++ t.0;
          read = Consumes-trans i i1 i2 u.bytes t.0 u.read t.1;
          end = λ e. absurd (true≢false (sym e));
          written = subst (λ (c : List ℕ). Appends o o2 (text S depth O A c)) same
              (all_written o2 k);
          stands = subst (λ (c : List ℕ). StandsFor holding hub O (A ++ arrivals S c))
              same u.stands;
        }
    fault_line WriteFailed =
        let same : u.bytes ≡ ended (u.bytes ++ t.0) = sym (ended_whole u.bytes t.0 u.whole t.2) in
        let front : text S depth O A u.bytes ≡ take (length (text S depth O A u.bytes))
        (text S depth O A u.bytes) =
        sym (ap (take (length (text S depth O A u.bytes)))
        (sym (append-nil (text S depth O A u.bytes))) ∙ take-append_seam
        (text S depth O A u.bytes) []) in
        record {
          bytes = u.bytes ++ t.0;
          at_end = false;
          k = length (text S depth O A u.bytes);
          read = Consumes-trans i i1 i2 u.bytes t.0 u.read t.1;
          end = λ e. absurd (true≢false (sym e));
          written =
              subst (λ (c : List ℕ). Appends o o2
              (take (length (text S depth O A u.bytes)) (text S depth O A c))) same
              (subst (Appends o o2) front (all_written o2 k));
          stands = subst (λ (c : List ℕ). StandsFor holding hub O (A ++ arrivals S c))
              same u.stands;
        }

  module _ {i2 o2 : Option (List ℕ)} {held : List ℕ} {fed : Bool}
      (l : LineRead i1 i2 o1 o2 held fed) where
    abbrev now : List ℕ
    now = u.bytes ++ (l.takes.bytes ++ feed_if fed)

    read_now : Consumes i i2 now
    read_now = Consumes-trans i i1 i2 u.bytes _ u.read l.takes.taken

    end_now : fed ≡ false → OnSome i (IsAtEnd i2)
    end_now e = end_after i i1 i2 u.bytes u.read (l.takes.last e)

    sent_now : line_arrivals S (without_return held) ≡ line_arrivals S
        (without_return l.takes.bytes)
    sent_now = ap (λ (q : List ℕ). line_arrivals S (without_return q)) l.takes.kept ∙ kept_arrivals
        S l.most l.enough l.takes.bytes

    arrived_now : A ++ arrivals S now ≡ (A ++ arrivals S u.bytes) ++ line_arrivals S
        (without_return held)
    arrived_now =
        ap (λ (B : List Arrival). A ++ B)
        (arrivals_more S u.bytes l.takes.bytes fed u.whole l.takes.one)
        ∙ (sym (append_assoc A (arrivals S u.bytes)
        (line_arrivals S (without_return l.takes.bytes)))
        ∙ ap (λ (B : List Arrival). (A ++ arrivals S u.bytes) ++ B) (sym sent_now))

    text_now : text S depth O A now ≡ text S depth O A u.bytes ++ line_reply S depth O
        (A ++ arrivals S u.bytes) number (without_return held)
    text_now =
        text_more S depth O A u.bytes l.takes.bytes fed u.whole l.takes.one
        ∙ (ap (λ n. text S depth O A u.bytes ++ line_reply S depth O (A ++ arrivals S u.bytes) n
        (without_return l.takes.bytes)) (sym u.number)
        ∙ (ap (λ (q : List ℕ). text S depth O A u.bytes ++ q)
        (sym (kept_reply S l.most l.enough l.takes.bytes depth O
        (A ++ arrivals S u.bytes) number))
        ∙ ap (λ (q : List ℕ). text S depth O A u.bytes ++ line_reply S depth O
        (A ++ arrivals S u.bytes) number (without_return q)) (sym l.takes.kept)))

    outcomes_now : outcomes S depth O A now ≡ outcomes S depth O A u.bytes ++ line_outcomes S depth
        O (A ++ arrivals S u.bytes) (without_return held)
    outcomes_now =
        outcomes_more S depth O A u.bytes l.takes.bytes fed u.whole l.takes.one
        ∙ (ap (λ (q : List Outcome). outcomes S depth O A u.bytes ++ q)
        (sym (kept_outcomes S l.most l.enough l.takes.bytes depth O (A ++ arrivals S u.bytes)))
        ∙ ap (λ (q : List ℕ). outcomes S depth O A u.bytes ++ line_outcomes S depth O
        (A ++ arrivals S u.bytes) (without_return q)) (sym l.takes.kept))

    -- a fault before the reply is complete
    pub fault_memory : (new : State Q) (fault : HubFault)
        → TakesSome holding new O (A ++ arrivals S u.bytes) (line_arrivals S (without_return held))
        → AfterFault S depth O A i i2 o o2 holding new (replay_fault fault)
    fault_memory new fault some =
        let line : List ℕ = l.takes.bytes ++ feed_if fed in
        let sent : arrivals S line ≡ line_arrivals S (without_return held) =
        one_arrivals S l.takes.bytes fed l.takes.one ∙ sym sent_now in
        after_hub_fault S depth O A i i2 o o2 holding new fault (record {
          before = u.bytes;
          line = line;
          read = read_now;
          whole = whole_ended;
          one = one_line l.takes.bytes fed l.takes.one;
          written = all_written o2 l.keeps;
          stands = subst (TakesSome holding new O (A ++ arrivals S u.bytes)) (sym sent) some;
        })

    module _ {new : State Q} {reply : List ℕ}
        (t : LineTold S depth O (A ++ arrivals S u.bytes) number (without_return held) holding new
        reply) where
      stands_now : StandsFor holding new O (A ++ arrivals S now)
      stands_now = subst (StandsFor holding new O) (sym arrived_now) t.stands

      text_told : text S depth O A u.bytes ++ reply ≡ text S depth O A now
      text_told = ap (λ (q : List ℕ). text S depth O A u.bytes ++ q) t.told ∙ sym text_now

      front_now : (j : ℕ) → text S depth O A u.bytes ++ take j reply
          ≡ take (length (text S depth O A u.bytes) + j) (text S depth O A now)
      front_now j = sym (ap (take (length (text S depth O A u.bytes) + j)) (sym text_told)
          ∙ take-append-add (text S depth O A u.bytes) reply j)

      -- a fault while the reply is written
      pub fault_write : (o3 : Option (List ℕ)) → (j : ℕ) × Appends o2 o3 (take j reply)
          → CutShort S depth O A i i2 o o3 holding new
      fault_write o3 w =
          let same : now ≡ lines_read (not fed) now =
          sym (lines_now u.bytes l.takes.bytes fed u.whole l.takes.one) in
          let m : ℕ = length (text S depth O A u.bytes) + w.0 in
          record {
            bytes = now;
            at_end = not fed;
            k = m;
            read = read_now;
            end = λ e. end_now (not-true fed e);
            written = subst (λ (c : List ℕ). Appends o o3 (take m (text S depth O A c))) same
                (subst (Appends o o3) (front_now w.0)
                (Appends-trans o o2 o3 _ (take w.0 reply) (all_written o2 l.keeps) w.1));
            stands = subst (λ (c : List ℕ). StandsFor holding new O (A ++ arrivals S c))
                same stands_now;
          }

      text_written : (o3 : Option (List ℕ)) → Appends o2 o3 reply
          → Appends o o3 (text S depth O A now)
      text_written o3 w = subst (Appends o o3) text_told
          (Appends-trans o o2 o3 _ reply (all_written o2 l.keeps) w)

      -- the line is answered
      pub answered_more : (o3 : Option (List ℕ)) → Appends o2 o3 reply → fed ≡ true
          → Underway S depth O A i i2 o o3 holding new (number + 1)
      answered_more o3 w e = record {
        bytes = now;
        read = read_now;
        whole = more_whole u.bytes l.takes.bytes fed u.whole l.takes.one e;
        written = text_written o3 w;
        stands = stands_now;
        number = let n = more_lines u.bytes l.takes.bytes fed u.whole l.takes.one e in
            omega (arith, n, u.number);
      }

      module _ (o3 o4 : Option (List ℕ)) (w : Appends o2 o3 reply) (kept : Keeps o3 o4)
          (e : fed ≡ false) where
        -- the last line is answered
        pub answered_last : Answered S depth O A i i2 o o4 holding new true
        answered_last = record {
          bytes = now;
          read = read_now;
          end = λ _. end_now e;
          written = appends_kept o o3 o4 _ (text_written o3 w) kept;
          stands = stands_now;
        }

        -- all lines are answered, but the final flush fails
        pub fault_flush : CutShort S depth O A i i2 o o4 holding new
        fault_flush = record {
          bytes = now;
          at_end = true;
          k = length (text S depth O A now);
          read = read_now;
          end = λ _. end_now e;
          written = subst (Appends o o4)
              (sym (ap (take (length (text S depth O A now)))
              (sym (append-nil (text S depth O A now))) ∙ take-append_seam (text S depth O A now)
              [])) (appends_kept o o3 o4 _ (text_written o3 w) kept);
          stands = stands_now;
        }

      -- a watch has seen the outcomes of the line
      module _ (had_seen saw has_seen : List Outcome → Type 0) (seen : (before : List Outcome)
          → had_seen before → saw (before ++ outcomes S depth O A u.bytes)) (came : List Outcome)
          (shown : (before : List Outcome) → saw before → has_seen (before ++ came))
          (is : came ≡ line_outcomes S depth O (A ++ arrivals S u.bytes)
          (without_return held)) where
        seen_now : (before : List Outcome) → had_seen before
            → has_seen (before ++ outcomes S depth O A now)
        seen_now before h =
            let whole : (before ++ outcomes S depth O A u.bytes) ++ came ≡ before ++ outcomes S
            depth O A now =
            append_assoc before (outcomes S depth O A u.bytes) came
            ∙ ap (λ (q : List Outcome). before ++ q)
            (ap (λ (q : List Outcome). outcomes S depth O A u.bytes ++ q) is
            ∙ sym outcomes_now) in
            subst has_seen whole (shown (before ++ outcomes S depth O A u.bytes) (seen before h))

        pub watched_more : (o3 : Option (List ℕ)) → Appends o2 o3 reply → fed ≡ true
            → UnderWatch S depth O A i i2 o o3 holding new (number + 1) had_seen has_seen
        unfolding answered_more
        watched_more o3 w e = record { under = answered_more o3 w e; seen = seen_now }

        pub watched_last : (o3 o4 : Option (List ℕ)) → Appends o2 o3 reply → Keeps o3 o4
            → fed ≡ false → Watched S depth O A i i2 o o4 holding new had_seen has_seen
        unfolding answered_last
        watched_last o3 o4 w kept e = record { all = answered_last o3 o4 w kept e; seen = seen_now }

-- the end of a known input
pub whole_input : {Q : Type 0} (S : Museum) (depth : ℕ) (O : List Entry) (A : List Arrival)
    (i i' o o' : Option (List ℕ)) (holding : Q → Holding) (hub : State Q)
    → Answered S depth O A i i' o o' holding hub true
    → IfSome i (λ bytes. IsAtEnd i' × Appends o o' (text S depth O A bytes)
    × StandsFor holding hub O (A ++ arrivals S bytes))
whole_input S depth O A None i' o o' holding hub a = tt
whole_input S depth O A (Some xs) None o o' holding hub a = absurd a.read
whole_input S depth O A (Some xs) (Some ys) o o' holding hub a =
    let none : ys ≡ [] = a.end refl in
    let same : a.bytes ≡ xs =
    sym (a.read ∙ ap (λ (q : List ℕ). a.bytes ++ q) none ∙ append-nil a.bytes) in (
      none,
      subst (λ (c : List ℕ). Appends o o' (text S depth O A c)) same a.written,
      subst (λ (c : List ℕ). StandsFor holding hub O (A ++ arrivals S c)) same a.stands,
    )

-- the outcomes of the whole input that a watch has seen
pub whole_seen : {Q : Type 0} (S : Museum) (depth : ℕ) (O : List Entry) (A : List Arrival)
    (i i' o o' : Option (List ℕ)) (holding : Q → Holding) (hub : State Q)
    (had_seen has_seen : List Outcome → Type 0)
    → Watched S depth O A i i' o o' holding hub had_seen has_seen
    → IfSome i (λ bytes. (before : List Outcome) → had_seen before
    → has_seen (before ++ outcomes S depth O A bytes))
whole_seen S depth O A None i' o o' holding hub had_seen has_seen w = tt
whole_seen S depth O A (Some xs) None o o' holding hub had_seen has_seen w = absurd w.all.read
whole_seen S depth O A (Some xs) (Some ys) o o' holding hub had_seen has_seen w =
    let none : ys ≡ [] = w.all.end refl in
    let same : w.all.bytes ≡ xs =
    sym (w.all.read ∙ ap (λ (q : List ℕ). w.all.bytes ++ q) none ∙ append-nil w.all.bytes) in
    λ before h. subst (λ (c : List ℕ). has_seen (before ++ outcomes S depth O A c)) same
    (w.seen before h)

-- the outcomes of this line at a hub with this museum and depth
pub came_at : {S S' : Museum} {depth depth' : ℕ} {line line' : List ℕ} {P P' : List Entry} → S' ≡ S
    → depth' ≡ depth → line' ≡ line → P' ≡ P → (said : Reply) (O : List Entry) (A : List Arrival)
    → reply_outcomes P said ≡ line_outcomes S' depth' O A line'
    → reply_outcomes P' said ≡ line_outcomes S depth O A line
came_at {S} {S'} {depth} {depth'} {line} {line'} {P} {P'} s d l p said O A h =
    ap (λ (Q : List Entry). reply_outcomes Q said) p
    ∙ (h
    ∙ (ap (λ (M : Museum). line_outcomes M depth' O A line') s
    ∙ (ap (λ n. line_outcomes S n O A line') d
    ∙ ap (λ (q : List ℕ). line_outcomes S depth O A q) l)))

-- the reply to this line at a hub with this museum and depth
pub told_at : {Q : Type 0} {S S' : Museum} {depth depth' : ℕ} {line line' reply reply' : List ℕ}
    → S' ≡ S → depth' ≡ depth → line' ≡ line → reply' ≡ reply
    → (holding : Q → Holding) (new : State Q) (O : List Entry) (A : List Arrival) (number : ℕ)
    → (reply ≡ line_reply S' depth' O A number line')
    × StandsFor holding new O (A ++ line_arrivals S' line')
    → LineTold S depth O A number line holding new reply'
told_at {Q} {S} {S'} {depth} {depth'} {line} {line'} {reply} s d l r holding new O A number h =
    let at = subst (λ (M : Museum). (reply ≡ line_reply M depth O A number line)
    × StandsFor holding new O (A ++ line_arrivals M line)) s
    (subst (λ n. (reply ≡ line_reply S' n O A number line)
    × StandsFor holding new O (A ++ line_arrivals S' line)) d
    (subst (λ (q : List ℕ). (reply ≡ line_reply S' depth' O A number q)
    × StandsFor holding new O (A ++ line_arrivals S' q)) l h)) in
    record { told = r ∙ at.0; stands = at.1 }

pub some_at : {Q : Type 0} (S S' : Museum) (line line' : List ℕ) (holding : Q → Holding)
    (new : State Q) (O : List Entry) (A : List Arrival) → S' ≡ S → line' ≡ line
    → TakesSome holding new O A (line_arrivals S' line')
    → TakesSome holding new O A (line_arrivals S line)
some_at S S' line line' holding new O A s l h =
    subst (λ (M : Museum). TakesSome holding new O A (line_arrivals M line)) s
    (subst (λ (q : List ℕ). TakesSome holding new O A (line_arrivals S' q)) l h)

-- the count of Store faults after a fault
abbrev pub count_after : ℕ → ReplayFault → ℕ
count_after old NoMemory = old
count_after old Store = min (old + 1) (2 ^ 64 - 1)
count_after old ReadFailed = old
count_after old WriteFailed = old

pub after_hub : (old mid new : ℕ) (fault : HubFault) → mid ≡ old
    → CountsStore {T = Unit {0}} mid new (Err fault) → new ≡ count_after old (replay_fault fault)
after_hub old mid new fault same counts =
    subst (λ n. new ≡ count_after n (replay_fault fault)) same (by fault counts)
  where
    by : (fault : HubFault) → CountsStore {T = Unit {0}} mid new (Err fault)
        → new ≡ count_after mid (replay_fault fault)
    by hub_faults.NoMemory h = h
    by hub_faults.Store h = h
    by hub_faults.Down h = h

pub after_other : (old new : ℕ) (fault : ReplayFault) → (fault ≡ Store → ⊥) → new ≡ old
    → new ≡ count_after old fault
after_other old new NoMemory other same = same
after_other old new Store other same = absurd (other refl)
after_other old new ReadFailed other same = same
after_other old new WriteFailed other same = same

-- a replay ends with a fault
module _ {Q T : Type 0} (holding : Q → Holding) (refusals : Q → ℕ) (i i' o o' : Option (List ℕ))
    (old new : State Q) (museum : new.book.museum ≡ old.book.museum)
    (depth : new.book.depth ≡ old.book.depth) where
  pub ends_fault : (fault : ReplayFault)
      → ((O : List Entry) (A : List Arrival) → StandsFor holding old O A
      → AfterFault old.book.museum old.book.depth O A i i' o o' holding new fault)
      → refusals new.register ≡ count_after (refusals old.register) fault
      → EndsReplay {T = T} holding refusals i i' o o' old new (Err fault)
  ends_fault fault after count =
      record {
        faults = after;
        up = tt;
        count = counted fault count;
        museum = museum;
        depth = depth;
      }
    where
      counted : (fault : ReplayFault)
          → refusals new.register ≡ count_after (refusals old.register) fault
          → CountsReplay {T = T} (refusals old.register) (refusals new.register) (Err fault)
      counted NoMemory is = is
      counted Store is = is
      counted ReadFailed is = is
      counted WriteFailed is = is

  pub ends_err : (r : Result T ReplayFault) (fault : ReplayFault) → IsErrAnd r (λ y. y ≡ fault)
      → ((O : List Entry) (A : List Arrival) → StandsFor holding old O A
      → AfterFault old.book.museum old.book.depth O A i i' o o' holding new fault)
      → refusals new.register ≡ count_after (refusals old.register) fault
      → EndsReplay holding refusals i i' o o' old new r
  ends_err (Ok x) fault is after count = absurd is
  ends_err (Err y) fault is after count =
      subst (λ f. EndsReplay {T = T} holding refusals i i' o o' old new (Err f)) (sym is)
      (ends_fault fault after count)

  -- or at the final flush
  pub ends_flush : (r : Result T ReplayFault) → IfErr r (λ y. y ≡ WriteFailed) → new.down ≡ false
      → refusals new.register ≡ refusals old.register
      → ((O : List Entry) (A : List Arrival) → StandsFor holding old O A
      → AfterFault old.book.museum old.book.depth O A i i' o o' holding new WriteFailed)
      → EndsReplay holding refusals i i' o o' old new r
  ends_flush (Ok x) is up count after =
      record { faults = tt; up = up; count = count; museum = museum; depth = depth }
  ends_flush (Err y) is up count after =
      subst (λ f. EndsReplay {T = T} holding refusals i i' o o' old new (Err f)) (sym is)
      (ends_fault WriteFailed after count)
