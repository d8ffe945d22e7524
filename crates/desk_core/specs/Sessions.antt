-- Defines what a desk has done with the lines that it read. Lines are listed newest first, as
-- entries are. `i` and `i'` are the bytes that the reader has left before and after, `o` and `o'`
-- those that the writer holds, `l` and `l'` those that the log holds.
use Rattle.std.specs.Prelude.{ℕ, ◌≡◌, ◌⊎◌, ◌+◌, ◌++◌, ◌∷◌, [], ⊤, Bool, false, true, List, Option}
use Rattle.std.specs.Prelude.{IfErr, OnErr, OnOk, OnSome, Result, length, take}
use Rattle.std.specs.Io.KnownBytes.{Appends, Consumes, IsAtEnd}
use Rattle.nest_core.specs.Museum.{Museum}
use Rattle.posting_core.specs.declared.entry.Entry.{Entry}
use Rattle.register_store.specs.Holdings.{Holding}
use Rattle.hub_core.specs.declared.hub.answer.Arrival.{Arrival}
use Rattle.hub_core.specs.declared.hub.answer.HubFault.TheVariants as hub_faults
use Rattle.hub_core.specs.declared.line.bytes.TheConstants.{MOST_KEPT}
use Rattle.hub_core.specs.Lines.{without_return}
use Rattle.hub_core.specs.Reading.{HasNoFeed, feed_if}
use Rattle.hub_core.specs.StandsFor.{State, StandsFor, TakesSome}
use Rattle.desk_core.specs.declared.desk.Desk.{Desk}
use Rattle.desk_core.specs.declared.said.Said.{Said}
use Rattle.table_core.specs.Labels.{Label, code_for}
use Rattle.desk_core.specs.declared.bench.Bench.{Bench}
use Rattle.desk_core.specs.declared.desk_fault.DeskFault.{DeskFault}
use Rattle.desk_core.specs.declared.desk_fault.DeskFault.TheVariants.{LogFailed, NoMemory}
use Rattle.desk_core.specs.declared.desk_fault.DeskFault.TheVariants.{ReadFailed, Store}
use Rattle.desk_core.specs.declared.desk_fault.DeskFault.TheVariants.{WriteFailed}
use Rattle.desk_core.specs.declared.line_fault.LineFault.{LineFault}
use Rattle.desk_core.specs.declared.line_fault.LineFault.TheVariants.{Hub, Log}
use Rattle.desk_core.specs.Answers.{Asks, IsTold}
use Rattle.desk_core.specs.Logs.{HubStops, LogStops, log_text}
use Rattle.desk_core.specs.Sent.{heard, said_arrivals}

-- A call that takes a line. For every list of arrivals that the hub stood for: the line is
-- answered, and the hub stands for the list with the line's arrivals added. After a fault it has
-- taken some of them, or was stopped at one. The setup and the depth limit never change.
pub record Takes {R T E : Type 0} (holding : R → Holding) (old new : State R)
    (IsAnswered : List Entry → List Arrival → Type 0)
    (sent : List Entry → List Arrival → List Arrival) (result : Result T E) : Type 0 where
  pub told : OnOk result ((O : List Entry) (A : List Arrival) → StandsFor holding old O A
      → IsAnswered O A × StandsFor holding new O (A ++ sent O A))
  pub fault : OnErr result ((O : List Entry) (A : List Arrival) → StandsFor holding old O A
      → TakesSome holding new O A (sent O A))
  pub up : OnOk result (new.down ≡ false)
  pub museum : new.book.museum ≡ old.book.museum
  pub depth : new.book.depth ≡ old.book.depth

-- What a fault of a line leaves, after the arrivals A: `past` is the text of the log for these, and
-- `text` that for the arrivals of the line.
abbrev pub Leaves : {R : Type 0} → (R → Holding) → State R → List Entry → List Arrival
    → List Arrival → Option (List ℕ) → Option (List ℕ) → List ℕ → List ℕ → LineFault → Type 0
Leaves holding hub O A sent l l' past text (Hub fault) =
    LogStops holding hub O A l l' past text ⊎ HubStops holding hub O A sent l l' past text
Leaves holding hub O A sent l l' past text Log = LogStops holding hub O A l l' past text

-- The same as `Takes`, for a call that also adds the arrivals of the station to the log.
pub record TakesAndLogs {R T : Type 0} (holding : R → Holding) (old new : State R)
    (l l' : Option (List ℕ)) (station : ℕ) (IsAnswered : List Entry → List Arrival → Type 0)
    (sent : List Entry → List Arrival → List Arrival) (result : Result T LineFault) : Type 0 where
  pub told : OnOk result ((O : List Entry) (A : List Arrival) → StandsFor holding old O A
      → IsAnswered O A × StandsFor holding new O (A ++ sent O A)
      × Appends l l' (log_text old.book.museum station (sent O A)))
  pub fault : IfErr result (λ fault. (O : List Entry) (A : List Arrival) → StandsFor holding old O A
      → Leaves holding new O A (sent O A) l l' []
      (log_text old.book.museum station (sent O A)) fault)
  pub up : OnOk result (new.down ≡ false)
  pub museum : new.book.museum ≡ old.book.museum
  pub depth : new.book.depth ≡ old.book.depth

-- A line as it is taken: its first 16,386 bytes, without a carriage return at their end. A label
-- stands for its code. A line of more than 16,384 bytes isn't understood.
abbrev pub taken : List Label → List ℕ → List ℕ
taken labels line = code_for labels (without_return (take MOST_KEPT line))

-- The desk after these lines.
abbrev pub desk_after : Museum → List Label → Desk → List (List ℕ) → Desk
desk_after S labels d [] = d
desk_after S labels d (line ∷ before) =
    (heard S (desk_after S labels d before) (taken labels line)).0

-- What a line says after those before it.
abbrev pub said_after : Museum → List Label → Desk → List (List ℕ) → List ℕ → Said
said_after S labels d before line =
    (heard S (desk_after S labels d before) (taken labels line)).1

-- The arrivals of a line, after those before it and the arrivals A.
abbrev pub line_arrivals : Museum → ℕ → List Entry → List Arrival → Bench → Desk
    → List (List ℕ) → List ℕ → List Arrival
line_arrivals S depth O A bench d before line =
    said_arrivals S depth O A bench.station (taken bench.labels.now line)
    (said_after S bench.labels.now d before line)

-- The arrivals of the lines, after the arrivals A.
abbrev pub arrivals : Museum → ℕ → List Entry → List Arrival → Bench → Desk → List (List ℕ)
    → List Arrival
arrivals S depth O A bench d [] = []
arrivals S depth O A bench d (line ∷ before) =
    arrivals S depth O A bench d before
    ++ line_arrivals S depth O (A ++ arrivals S depth O A bench d before) bench d before line

-- The text answers the lines, in their order. Each is answered after the arrivals of those before
-- it, and numbered from 1.
abbrev pub AreTold : Museum → ℕ → List Entry → List Arrival → Asks → Bench → Desk
    → List (List ℕ) → List ℕ → Type 0
AreTold S depth O A asks bench d [] text = text ≡ []
AreTold S depth O A asks bench d (line ∷ before) text =
    (earlier : List ℕ) × (answer : List ℕ) × (text ≡ earlier ++ answer)
    × AreTold S depth O A asks bench d before earlier
    × IsTold S depth O (A ++ arrivals S depth O A bench d before) asks bench (length before + 1)
    (taken bench.labels.now line) (said_after S bench.labels.now d before line) answer

-- The bytes of the lines: a line feed after each, and after the newest if it is `fed`.
abbrev pub bytes_of : Bool → List (List ℕ) → List ℕ
bytes_of fed [] = []
bytes_of fed (line ∷ before) = bytes_of true before ++ (line ++ feed_if fed)

-- None of the lines has a line feed in it.
abbrev pub HaveNoFeed : List (List ℕ) → Type 0
HaveNoFeed [] = ⊤
HaveNoFeed (line ∷ before) = HasNoFeed line × HaveNoFeed before

-- The lines were read, and then the bytes `rest`.
pub record AreRead (i i' : Option (List ℕ)) (lines : List (List ℕ)) (fed : Bool)
    (rest : List ℕ) : Type 0 where
  pub bytes : Consumes i i' (bytes_of fed lines ++ rest)
  pub one : HaveNoFeed lines

-- All lines of the input are answered. The input ended the newest.
pub record Answered {Q : Type 0} (S : Museum) (depth : ℕ) (O : List Entry) (A : List Arrival)
    (asks : Asks) (bench : Bench) (d : Desk) (i i' o o' l l' : Option (List ℕ))
    (holding : Q → Holding) (hub : State Q) : Type 0 where
  pub lines : List (List ℕ)
  pub text : List ℕ
  pub read : AreRead i i' lines false []
  pub end : OnSome i (IsAtEnd i')
  pub told : AreTold S depth O A asks bench d lines text
  pub written : Appends o o' text
  pub logged : Appends l l' (log_text S bench.station (arrivals S depth O A bench d lines))
  pub stands : StandsFor holding hub O (A ++ arrivals S depth O A bench d lines)

-- Reading stopped. All lines that were read to their ends are answered. The start of one more may
-- have been read, and is not taken.
pub record ReadingStopped {Q : Type 0} (S : Museum) (depth : ℕ) (O : List Entry)
    (A : List Arrival) (asks : Asks) (bench : Bench) (d : Desk) (i i' o o' l l' : Option (List ℕ))
    (holding : Q → Holding) (hub : State Q) : Type 0 where
  pub lines : List (List ℕ)
  pub start : List ℕ
  pub text : List ℕ
  pub read : AreRead i i' lines true start
  pub open_end : HasNoFeed start
  pub told : AreTold S depth O A asks bench d lines text
  pub written : Appends o o' text
  pub logged : Appends l l' (log_text S bench.station (arrivals S depth O A bench d lines))
  pub stands : StandsFor holding hub O (A ++ arrivals S depth O A bench d lines)

-- One line met the fault. It was read to its line feed, or to the end of the input if it has none.
-- All lines before it are answered.
pub record BrokenOff {Q : Type 0} (S : Museum) (depth : ℕ) (O : List Entry) (A : List Arrival)
    (asks : Asks) (bench : Bench) (d : Desk) (i i' o o' l l' : Option (List ℕ))
    (holding : Q → Holding) (hub : State Q) (fault : LineFault) : Type 0 where
  pub lines : List (List ℕ)
  pub line : List ℕ
  pub fed : Bool
  pub text : List ℕ
  pub read : AreRead i i' lines true (line ++ feed_if fed)
  pub one : HasNoFeed line
  pub end : fed ≡ false → OnSome i (IsAtEnd i')
  pub told : AreTold S depth O A asks bench d lines text
  pub written : Appends o o' text
  pub left : let before = arrivals S depth O A bench d lines in
      let sent = line_arrivals S depth O (A ++ before) bench d lines line in
      Leaves holding hub O (A ++ before) sent l l' (log_text S bench.station before)
      (log_text S bench.station sent) fault

-- All lines that were read to their ends are taken, and k bytes of their answers are written. The
-- start of one more may have been read, unless the input ended the newest.
pub record CutShort {Q : Type 0} (S : Museum) (depth : ℕ) (O : List Entry) (A : List Arrival)
    (asks : Asks) (bench : Bench) (d : Desk) (i i' o o' l l' : Option (List ℕ))
    (holding : Q → Holding) (hub : State Q) : Type 0 where
  pub lines : List (List ℕ)
  pub fed : Bool
  pub start : List ℕ
  pub text : List ℕ
  pub k : ℕ
  pub read : AreRead i i' lines fed start
  pub open_end : HasNoFeed start
  pub end : fed ≡ false → (start ≡ []) × OnSome i (IsAtEnd i')
  pub told : AreTold S depth O A asks bench d lines text
  pub written : Appends o o' (take k text)
  pub logged : Appends l l' (log_text S bench.station (arrivals S depth O A bench d lines))
  pub stands : StandsFor holding hub O (A ++ arrivals S depth O A bench d lines)

-- What each fault leaves. Memory can run out while a line is read, and while it is taken.
abbrev pub AfterFault : {Q : Type 0} → Museum → ℕ → List Entry → List Arrival → Asks → Bench
    → Desk → Option (List ℕ) → Option (List ℕ) → Option (List ℕ) → Option (List ℕ)
    → Option (List ℕ) → Option (List ℕ) → (Q → Holding) → State Q → DeskFault → Type 0
AfterFault S depth O A asks bench d i i' o o' l l' holding hub NoMemory =
    ReadingStopped S depth O A asks bench d i i' o o' l l' holding hub
    ⊎ BrokenOff S depth O A asks bench d i i' o o' l l' holding hub (Hub hub_faults.NoMemory)
AfterFault S depth O A asks bench d i i' o o' l l' holding hub Store =
    BrokenOff S depth O A asks bench d i i' o o' l l' holding hub (Hub hub_faults.Store)
AfterFault S depth O A asks bench d i i' o o' l l' holding hub ReadFailed =
    ReadingStopped S depth O A asks bench d i i' o o' l l' holding hub
AfterFault S depth O A asks bench d i i' o o' l l' holding hub WriteFailed =
    CutShort S depth O A asks bench d i i' o o' l l' holding hub
AfterFault S depth O A asks bench d i i' o o' l l' holding hub LogFailed =
    BrokenOff S depth O A asks bench d i i' o o' l l' holding hub Log
