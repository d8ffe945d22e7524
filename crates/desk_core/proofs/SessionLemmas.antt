-- Lemmas on the lines that a desk has taken.
use Rattle.std.proofs.Common.{◌≡◌, ◌≢◌, ℕ, ◌+◌, ◌++◌, ◌∷◌, [], Bool, true, false, List, Option}
use Rattle.std.proofs.Common.{length, take, refl, sym, ap, ◌∙◌, subst, append-nil, append_assoc}
use Rattle.std.proofs.Common.{arith, inl, inr, true≢false}
use Rattle.std.specs.Prelude.{OnSome}
use Rattle.std.specs.Io.KnownBytes.{Appends, Consumes, IsAtEnd, Keeps}
use Rattle.std.proofs.KnownBytes.{Appends-nil, Appends-trans, Consumes-nil, Consumes-trans}
use Rattle.std.proofs.Math.Seq.{take-append-add, take-length}
use Rattle.nest_core.specs.Museum.{Museum}
use Rattle.posting_core.specs.declared.entry.Entry.{Entry}
use Rattle.register_store.specs.Holdings.{Holding}
use Rattle.hub_core.specs.declared.hub.answer.Arrival.{Arrival}
use Rattle.hub_core.specs.declared.hub.answer.HubFault.TheVariants as hub_faults
use Rattle.hub_core.specs.declared.line.bytes.TheConstants.{MOST_KEPT}
use Rattle.hub_core.specs.declared.replay_fault.ReplayFault.{ReplayFault}
use Rattle.hub_core.specs.declared.replay_fault.ReplayFault.TheVariants as replay
use Rattle.hub_core.specs.Lines.{without_return}
use Rattle.hub_core.specs.Reading.{TakesLine, TakesStart}
use Rattle.hub_core.specs.StandsFor.{State, StandsFor}
use Rattle.hub_core.proofs.FeedLemmas.{end_after}
use Rattle.hub_core.proofs.Written.{appends_kept}
use Rattle.desk_core.specs.declared.desk.Desk.{Desk}
use Rattle.table_core.specs.Labels.{Label, code_for}
use Rattle.desk_core.specs.declared.bench.Bench.{Bench}
use Rattle.desk_core.specs.declared.line_fault.LineFault.{LineFault}
use Rattle.desk_core.specs.declared.line_fault.LineFault.TheVariants.{Hub, Log}
use Rattle.desk_core.specs.Answers.{Asks, IsTold}
use Rattle.desk_core.specs.Faults.{of_line, of_replay}
use Rattle.desk_core.specs.Logs.{log_text}
use Rattle.desk_core.specs.Sent.{heard, said_arrivals}
use Rattle.desk_core.specs.Sessions.{AfterFault, Answered, AreTold, BrokenOff, CutShort}
use Rattle.desk_core.specs.Sessions.{HaveNoFeed, Leaves, ReadingStopped, arrivals, bytes_of}
use Rattle.desk_core.specs.Sessions.{desk_after, line_arrivals, said_after, taken}
use Rattle.desk_core.proofs.LogLemmas.{leaves_after, log_join}

-- a line as it is taken, from the bytes that were kept of it
pub as_typed : (labels : List Label) {taken typed slice held : List ℕ}
    → taken ≡ code_for labels typed → typed ≡ without_return slice → slice ≡ held
    → taken ≡ code_for labels (without_return held)
as_typed labels t w s = t ∙ ap (λ (q : List ℕ). code_for labels q) (w ∙ ap without_return s)

-- the lines so far are read and answered
pub record SoFar {Q : Type 0} (S : Museum) (depth : ℕ) (O : List Entry) (A : List Arrival)
    (asks : Asks) (bench : Bench) (d : Desk) (i i' o o' l l' : Option (List ℕ))
    (holding : Q → Holding) (hub : State Q) (now : Desk) (next : ℕ) : Type 0 where
  pub lines : List (List ℕ)
  pub text : List ℕ
  pub bytes : Consumes i i' (bytes_of true lines)
  pub one : HaveNoFeed lines
  pub told : AreTold S depth O A asks bench d lines text
  pub written : Appends o o' text
  pub logged : Appends l l' (log_text S bench.station (arrivals S depth O A bench d lines))
  pub stands : StandsFor holding hub O (A ++ arrivals S depth O A bench d lines)
  pub desk : now ≡ desk_after S bench.labels.now d lines
  pub number : next ≡ length lines + 1

pub so_far_start : {Q : Type 0} (S : Museum) (depth : ℕ) (O : List Entry) (A : List Arrival)
    (asks : Asks) (bench : Bench) (d : Desk) (i o l : Option (List ℕ)) (holding : Q → Holding)
    (hub : State Q) → StandsFor holding hub O A
    → SoFar S depth O A asks bench d i i o o l l holding hub d 1
so_far_start S depth O A asks bench d i o l holding hub st = record {
  lines = [];
  text = [];
  bytes = Consumes-nil i;
  one = tt;
  told = refl;
  written = Appends-nil o;
  logged = Appends-nil l;
  stands = subst (StandsFor holding hub O) (sym (append-nil A)) st;
  desk = refl;
  number = refl;
}

-- the line is taken after these arrivals, with this answer
pub record LineDone {Q : Type 0} (S : Museum) (depth : ℕ) (O : List Entry) (A : List Arrival)
    (asks : Asks) (bench : Bench) (number : ℕ) (before : Desk) (line : List ℕ)
    (l l' : Option (List ℕ)) (holding : Q → Holding) (hub : State Q) (answer : List ℕ) :
    Type 0 where
  pub told : IsTold S depth O A asks bench number line (heard S before line).1 answer
  pub logged : Appends l l' (log_text S bench.station
      (said_arrivals S depth O A bench.station line (heard S before line).1))
  pub stands : StandsFor holding hub O
      (A ++ said_arrivals S depth O A bench.station line (heard S before line).1)

module _ {Q : Type 0} {S : Museum} {depth : ℕ} {O : List Entry} {A : List Arrival}
    {asks : Asks} {bench : Bench} {d : Desk} {i i1 o o1 l l1 : Option (List ℕ)}
    {holding : Q → Holding} {hub : State Q} {now : Desk} {next : ℕ}
    (u : SoFar S depth O A asks bench d i i1 o o1 l l1 holding hub now next) where
  abbrev pub sent_before : List Arrival
  sent_before = A ++ arrivals S depth O A bench d u.lines

  all_written : (o2 : Option (List ℕ)) → Keeps o1 o2 → Appends o o2 u.text
  all_written o2 k = appends_kept o o1 o2 u.text u.written k

  -- no line is begun
  pub read_out : ReadingStopped S depth O A asks bench d i i1 o o1 l l1 holding hub
  read_out = record {
    lines = u.lines;
    start = [];
    text = u.text;
    read = record {
      bytes = subst (Consumes i i1) (sym (append-nil (bytes_of true u.lines))) u.bytes;
      one = u.one;
    };
    open_end = tt;
    told = u.told;
    written = u.written;
    logged = u.logged;
    stands = u.stands;
  }

  module _ (i2 o2 : Option (List ℕ)) (t : TakesStart i1 i2) (k : Keeps o1 o2) where
    started : Consumes i i2 (bytes_of true u.lines ++ t.0)
    started = Consumes-trans i i1 i2 (bytes_of true u.lines) t.0 u.bytes t.1

    stopped_reading : ReadingStopped S depth O A asks bench d i i2 o o2 l l1 holding hub
    stopped_reading = record {
      lines = u.lines;
      start = t.0;
      text = u.text;
      read = record { bytes = started; one = u.one };
      open_end = t.2;
      told = u.told;
      written = all_written o2 k;
      logged = u.logged;
      stands = u.stands;
    }

    -- a fault before the line has ended
    pub fault_read : (fault : ReplayFault) → fault ≢ replay.Store
        → AfterFault S depth O A asks bench d i i2 o o2 l l1 holding hub (of_replay fault)
    fault_read replay.NoMemory e = inl stopped_reading
    fault_read replay.Store e = absurd (e refl)
    fault_read replay.ReadFailed e = stopped_reading
    fault_read replay.WriteFailed e = record {
      lines = u.lines;
      fed = true;
      start = t.0;
      text = u.text;
      k = length u.text;
      read = record { bytes = started; one = u.one };
      open_end = t.2;
      end = λ e. absurd (true≢false e);
      told = u.told;
      written = subst (Appends o o2) (sym (take-length u.text)) (all_written o2 k);
      logged = u.logged;
      stands = u.stands;
    }

  module _ {i2 : Option (List ℕ)} {held : List ℕ} {fed : Bool}
      (r : TakesLine i1 i2 MOST_KEPT held fed) where
    abbrev typed : List ℕ
    typed = code_for bench.labels.now (without_return held)

    line_is : typed ≡ taken bench.labels.now r.bytes
    line_is = ap (λ (q : List ℕ). code_for bench.labels.now (without_return q)) r.kept

    ended : fed ≡ false → OnSome i (IsAtEnd i2)
    ended e = end_after i i1 i2 (bytes_of true u.lines) u.bytes (r.last e)

    read_now : Consumes i i2 (bytes_of fed (r.bytes ∷ u.lines))
    read_now = Consumes-trans i i1 i2 (bytes_of true u.lines) _ u.bytes r.taken

    read_last : fed ≡ false → Consumes i i2 (bytes_of false (r.bytes ∷ u.lines) ++ [])
    read_last e = subst (Consumes i i2) (sym (append-nil (bytes_of false (r.bytes ∷ u.lines))))
        (subst (λ f. Consumes i i2 (bytes_of f (r.bytes ∷ u.lines))) e read_now)

    said_is : (heard S now typed).1 ≡ said_after S bench.labels.now d u.lines r.bytes
    said_is = ap (λ (q : Desk). (heard S q typed).1) u.desk
        ∙ ap (λ (q : List ℕ). (heard S (desk_after S bench.labels.now d u.lines) q).1) line_is

    sent_is : said_arrivals S depth O sent_before bench.station typed (heard S now typed).1
        ≡ line_arrivals S depth O sent_before bench d u.lines r.bytes
    sent_is = ap (λ said. said_arrivals S depth O sent_before bench.station typed said) said_is
        ∙ ap (λ (q : List ℕ). said_arrivals S depth O sent_before bench.station q
        (said_after S bench.labels.now d u.lines r.bytes)) line_is

    module _ {l2 : Option (List ℕ)} {new : State Q} {answer : List ℕ}
        (t : LineDone S depth O sent_before asks bench next now typed l1 l2 holding new answer)
      where
        told_now : AreTold S depth O A asks bench d (r.bytes ∷ u.lines) (u.text ++ answer)
        told_now = (
          u.text,
          answer,
          refl,
          u.told,
          subst (λ (q : List ℕ). IsTold S depth O sent_before asks bench (length u.lines + 1) q
              (said_after S bench.labels.now d u.lines r.bytes) answer) line_is
              (subst (λ n. IsTold S depth O sent_before asks bench n typed
              (said_after S bench.labels.now d u.lines r.bytes) answer) u.number
              (subst (λ said. IsTold S depth O sent_before asks bench next typed said answer)
              said_is t.told)),
        )

        logged_now : Appends l l2
            (log_text S bench.station (arrivals S depth O A bench d (r.bytes ∷ u.lines)))
        logged_now = subst (Appends l l2) (sym (log_join S bench.station _ _))
            (Appends-trans l l1 l2 _ _ u.logged
            (subst (λ (B : List Arrival). Appends l1 l2 (log_text S bench.station B)) sent_is
            t.logged))

        stands_now : StandsFor holding new O
            (A ++ arrivals S depth O A bench d (r.bytes ∷ u.lines))
        stands_now = subst (StandsFor holding new O) (append_assoc A _ _)
            (subst (λ (B : List Arrival). StandsFor holding new O (sent_before ++ B)) sent_is
            t.stands)

    module _ (o2 : Option (List ℕ)) (k : Keeps o1 o2) where
      broken : (l2 : Option (List ℕ)) (new : State Q) (fault : LineFault)
          → Leaves holding new O sent_before
          (line_arrivals S depth O sent_before bench d u.lines r.bytes) l l2
          (log_text S bench.station (arrivals S depth O A bench d u.lines))
          (log_text S bench.station
          (line_arrivals S depth O sent_before bench d u.lines r.bytes)) fault
          → BrokenOff S depth O A asks bench d i i2 o o2 l l2 holding new fault
      broken l2 new fault left = record {
        lines = u.lines;
        line = r.bytes;
        fed = fed;
        text = u.text;
        read = record { bytes = read_now; one = u.one };
        one = r.one;
        end = ended;
        told = u.told;
        written = all_written o2 k;
        left = left;
      }

      at_fault : (l2 : Option (List ℕ)) (new : State Q) (fault : LineFault)
          → Leaves holding new O sent_before
          (line_arrivals S depth O sent_before bench d u.lines r.bytes) l l2
          (log_text S bench.station (arrivals S depth O A bench d u.lines))
          (log_text S bench.station
          (line_arrivals S depth O sent_before bench d u.lines r.bytes)) fault
          → AfterFault S depth O A asks bench d i i2 o o2 l l2 holding new (of_line fault)
      at_fault l2 new (Hub hub_faults.NoMemory) left =
          inr (broken l2 new (Hub hub_faults.NoMemory) left)
      at_fault l2 new (Hub hub_faults.Store) left = broken l2 new (Hub hub_faults.Store) left
      at_fault l2 new (Hub hub_faults.Down) left =
          inr (broken l2 new (Hub hub_faults.NoMemory) left)
      at_fault l2 new Log left = broken l2 new Log left

      -- a fault before the line is answered
      pub fault_take : (l2 : Option (List ℕ)) (new : State Q) (fault : LineFault)
          → Leaves holding new O sent_before
          (said_arrivals S depth O sent_before bench.station typed (heard S now typed).1) l1 l2 []
          (log_text S bench.station (said_arrivals S depth O sent_before bench.station typed
          (heard S now typed).1)) fault
          → AfterFault S depth O A asks bench d i i2 o o2 l l2 holding new (of_line fault)
      fault_take l2 new fault left =
          at_fault l2 new fault (leaves_after holding new O sent_before _ l l1 l2 _ _ fault u.logged
          (subst (λ (B : List Arrival). Leaves holding new O sent_before B l1 l2 []
          (log_text S bench.station B) fault) sent_is left))

      module _ {l2 : Option (List ℕ)} {new : State Q} {answer : List ℕ}
          (t : LineDone S depth O sent_before asks bench next now typed l1 l2 holding new answer)
        where
          -- a fault while the answer is written
          pub fault_write : (o3 : Option (List ℕ)) → (j : ℕ) × Appends o2 o3 (take j answer)
              → CutShort S depth O A asks bench d i i2 o o3 l l2 holding new
          fault_write o3 w = record {
            lines = r.bytes ∷ u.lines;
            fed = fed;
            start = [];
            text = u.text ++ answer;
            k = length u.text + w.0;
            read = record {
              bytes = subst (Consumes i i2) (sym (append-nil (bytes_of fed (r.bytes ∷ u.lines))))
                  read_now;
              one = (r.one, u.one);
            };
            open_end = tt;
            end = λ e. (refl, ended e);
            told = told_now t;
            written = subst (Appends o o3) (sym (take-append-add u.text answer w.0))
                (Appends-trans o o2 o3 u.text (take w.0 answer) (all_written o2 k) w.1);
            logged = logged_now t;
            stands = stands_now t;
          }

          written_now : (o3 : Option (List ℕ)) → Appends o2 o3 answer
              → Appends o o3 (u.text ++ answer)
          written_now o3 w = Appends-trans o o2 o3 u.text answer (all_written o2 k) w

          -- the line is answered
          pub one_more : (o3 : Option (List ℕ)) → Appends o2 o3 answer → fed ≡ true
              → (after : Desk) → after ≡ (heard S now typed).0
              → SoFar S depth O A asks bench d i i2 o o3 l l2 holding new after (next + 1)
          one_more o3 w e after desk = record {
            lines = r.bytes ∷ u.lines;
            text = u.text ++ answer;
            bytes = subst (λ f. Consumes i i2 (bytes_of f (r.bytes ∷ u.lines))) e read_now;
            one = (r.one, u.one);
            told = told_now t;
            written = written_now o3 w;
            logged = logged_now t;
            stands = stands_now t;
            desk = desk ∙ ap (λ (q : Desk). (heard S q typed).0) u.desk
                ∙ ap (λ (q : List ℕ). (heard S (desk_after S bench.labels.now d u.lines) q).0)
                line_is;
            number = (let number = u.number in omega (arith, number));
          }

          -- the last line is answered
          pub answered_last : (o3 o4 : Option (List ℕ)) → Appends o2 o3 answer → Keeps o3 o4
              → fed ≡ false → Answered S depth O A asks bench d i i2 o o4 l l2 holding new
          answered_last o3 o4 w kept e = record {
            lines = r.bytes ∷ u.lines;
            text = u.text ++ answer;
            read = record { bytes = read_last e; one = (r.one, u.one) };
            end = ended e;
            told = told_now t;
            written = appends_kept o o3 o4 _ (written_now o3 w) kept;
            logged = logged_now t;
            stands = stands_now t;
          }

          -- a fault of the last flush
          pub fault_flush : (o3 o4 : Option (List ℕ)) → Appends o2 o3 answer → Keeps o3 o4
              → fed ≡ false → CutShort S depth O A asks bench d i i2 o o4 l l2 holding new
          fault_flush o3 o4 w kept e = record {
            lines = r.bytes ∷ u.lines;
            fed = false;
            start = [];
            text = u.text ++ answer;
            k = length (u.text ++ answer);
            read = record { bytes = read_last e; one = (r.one, u.one) };
            open_end = tt;
            end = λ _. (refl, ended e);
            told = told_now t;
            written = subst (Appends o o4) (sym (take-length (u.text ++ answer)))
                (appends_kept o o3 o4 _ (written_now o3 w) kept);
            logged = logged_now t;
            stands = stands_now t;
          }

-- what a call did to the hub, with the setup and the depth limit of the start
pub done_at : {Q : Type 0} {S T : Museum} {depth limit : ℕ} {O : List Entry} {B : List Arrival}
    {asks : Asks} {bench : Bench} {number : ℕ} {before : Desk} {line taken : List ℕ}
    {l l' : Option (List ℕ)} {holding : Q → Holding} {new : State Q} {answer : List ℕ} → T ≡ S
    → limit ≡ depth → line ≡ taken
    → IsTold T limit O B asks bench number line (heard T before line).1 answer
    × StandsFor holding new O
    (B ++ said_arrivals T limit O B bench.station line (heard T before line).1)
    × Appends l l' (log_text T bench.station
    (said_arrivals T limit O B bench.station line (heard T before line).1))
    → LineDone S depth O B asks bench number before taken l l' holding new answer
done_at {Q} {S} {T} {depth} {limit} {O} {B} {asks} {bench} {number} {before} {line} {taken} {l}
    {l'} {holding} {new} {answer} museum limits lines did =
    let Did : Museum → ℕ → List ℕ → Type 0 =
    λ T limit line. IsTold T limit O B asks bench number line (heard T before line).1 answer
    × StandsFor holding new O
    (B ++ said_arrivals T limit O B bench.station line (heard T before line).1)
    × Appends l l' (log_text T bench.station
    (said_arrivals T limit O B bench.station line (heard T before line).1)) in
    let it = subst (λ q. Did S depth q) lines
    (subst (λ n. Did S n line) limits (subst (λ M. Did M limit line) museum did)) in
    record { told = it.0; stands = it.1; logged = it.2 }

-- what a fault left, with the setup and the depth limit of the start
pub left_at : {Q : Type 0} {S T : Museum} {depth limit : ℕ} {line taken : List ℕ}
    (O : List Entry) (B : List Arrival) (l l' : Option (List ℕ)) (holding : Q → Holding)
    (new : State Q) (s : ℕ) (before : Desk) (fault : LineFault) → T ≡ S → limit ≡ depth
    → line ≡ taken
    → Leaves holding new O B (said_arrivals T limit O B s line (heard T before line).1) l l' []
    (log_text T s (said_arrivals T limit O B s line (heard T before line).1)) fault
    → Leaves holding new O B (said_arrivals S depth O B s taken (heard S before taken).1) l l' []
    (log_text S s (said_arrivals S depth O B s taken (heard S before taken).1)) fault
left_at {Q} {S} {T} {depth} {limit} {line} {taken} O B l l' holding new s before fault museum
    limits lines left =
    let Left : Museum → ℕ → List ℕ → Type 0 =
    λ T limit line. Leaves holding new O B
    (said_arrivals T limit O B s line (heard T before line).1) l l' []
    (log_text T s (said_arrivals T limit O B s line (heard T before line).1)) fault in
    subst (λ q. Left S depth q) lines
    (subst (λ n. Left S n line) limits (subst (λ M. Left M limit line) museum left))
