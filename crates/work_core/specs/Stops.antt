-- Defines how work on a record can stop, and what it leaves then. `i` and `i'` are the bytes that
-- the reader has left before and after, `o` and `o'` those that the writer holds, and `l` and `l'`
-- those that the log of a desk holds.
use Rattle.std.specs.Prelude.{ℕ, ℤ, ◌≡◌, ◌⊎◌, true, IsFalse, IsTrue, List, Option}
use Rattle.hub_core.specs.declared.hub.answer.Arrival.{Arrival}
use Rattle.hub_core.specs.declared.replay_fault.ReplayFault.{ReplayFault}
use Rattle.hub_core.specs.Openings.{Opened, IsNotOpened, IsSessionFault}
use Rattle.hub_core.specs.Replayed as replayed
use Rattle.hub_core.specs.StandsFor.{State, StandsFor, IsFresh}
use Rattle.nest_core.specs.Museum.{Museum}
use Rattle.posting_core.specs.Past.{as_of}
use Rattle.posting_core.specs.declared.entry.Entry.{Entry}
use Rattle.posting_core.specs.Lawful.{is_signed_off}
use Rattle.register_store.specs.Holdings.{Holding, Comes}
use Rattle.register_store.specs.NoStore.{in_no_store}
use Rattle.register_store.specs.declared.no_store.NoStore.{NoStore}
use Rattle.register_store.specs.declared.store_fault.StoreFault.{StoreFault}
use Rattle.reports.specs.declared.fault.PrintFault.{PrintFault}
use Rattle.reports.specs.Forms as forms
use Rattle.reports.specs.Reports.{report_text}
use Rattle.serve_core.specs.declared.item.Item.{Item}
use Rattle.serve_core.specs.declared.item.LogLine.{LogLine}
use Rattle.serve_core.specs.declared.serve_fault.ServeFault.{ServeFault}
use Rattle.serve_core.specs.Logs.{Serves}
use Rattle.serve_core.specs.Sending as serving
use Rattle.work_core.specs.Faults.{of_desk, of_printing, of_replay, of_store}
use Rattle.work_core.specs.declared.fault.WorkFault.{WorkFault}
use Rattle.work_core.specs.declared.fault.WorkFault.TheVariants.{NoMemory, SignedOff}
use Rattle.work_core.specs.declared.work.Work.{Work}
use Rattle.work_core.specs.declared.work.Work.TheVariants as works
use Rattle.work_core.specs.declared.work.Work.TheVariants.{Replay, Print, Serve}
use Rattle.work_core.specs.Works.{new_desk}
use Rattle.desk_core.specs.declared.bench.Bench.{Bench}
use Rattle.desk_core.specs.declared.desk_fault.DeskFault.{DeskFault}
use Rattle.desk_core.specs.Answers.{Asks}
use Rattle.desk_core.specs.Sessions as desk

-- A fault came in the lines, or all lines were answered, and there was no memory for the notes.
abbrev pub LeavesLines : {R : Type 0} → (R → Holding) → State R → State R → List Entry
    → List Arrival → Option (List ℕ) → Option (List ℕ) → Option (List ℕ) → Option (List ℕ)
    → WorkFault → Type 0
LeavesLines holding hub ended O A i i' o o' fault =
    ((cause : ReplayFault) × (fault ≡ of_replay cause)
    × replayed.AfterFault hub.book.museum hub.book.depth O A i i' o o' holding ended cause)
    ⊎ ((fault ≡ NoMemory)
    × replayed.Answered hub.book.museum hub.book.depth O A i i' o o' holding ended true)

-- A replay stopped. The register is that of the hub as the fault left it.
pub record StopsReplay {R : Type 0} (holding : R → Holding) (hub : State R) (register : R)
    (i i' o o' : Option (List ℕ)) (fault : WorkFault) : Type 0 where
  pub ended : State R
  pub register_is : ended.register ≡ register
  pub left : (O : List Entry) (A : List Arrival) → StandsFor holding hub O A
      → LeavesLines holding hub ended O A i i' o o' fault

-- A report stopped: a prefix of its text is written, and whole lines of it if memory ran out.
abbrev pub StopsReport : Option (List ℕ) → Option (List ℕ) → List ℕ → WorkFault → Type 0
StopsReport o o' text fault =
    (cause : PrintFault) × (fault ≡ of_printing cause) × forms.Stops o o' cause text

-- A serving stopped. The hub took the messages of a log; some of its lines may not be printed.
pub record StopsServing {R : Type 0} (holding : R → Holding) (hub : State R) (register : R)
    (feeds : List (List Item)) : Type 0 where
  pub ended : State R
  pub register_is : ended.register ≡ register
  pub log : List LogLine
  pub taken : Serves holding hub ended log
      ⊎ ((cause : ServeFault) × serving.AfterFault holding hub ended feeds log cause)

-- A fault came in the lines of a desk, or all were answered, and there was no memory for the notes.
abbrev pub LeavesDesk : {R : Type 0} → Asks → Bench → Option ℤ → (R → Holding) → State R
    → State R → List Entry → List Arrival → Option (List ℕ) → Option (List ℕ) → Option (List ℕ)
    → Option (List ℕ) → Option (List ℕ) → Option (List ℕ) → WorkFault → Type 0
LeavesDesk asks bench day holding hub ended O A i i' o o' l l' fault =
    ((cause : DeskFault) × (fault ≡ of_desk cause)
    × desk.AfterFault hub.book.museum hub.book.depth O A asks bench (new_desk day) i i' o o' l l'
    holding ended cause)
    ⊎ ((fault ≡ NoMemory)
    × desk.Answered hub.book.museum hub.book.depth O A asks bench (new_desk day) i i' o o' l l'
    holding ended)

-- The lines of a desk stopped, whose station has not signed off. The register is that of the hub
-- as the fault left it.
pub record StopsLines {R : Type 0} (asks : Asks) (bench : Bench) (day : Option ℤ)
    (holding : R → Holding) (hub : State R) (register : R) (i i' o o' l l' : Option (List ℕ))
    (fault : WorkFault) : Type 0 where
  pub ended : State R
  pub unsigned : IsFalse (is_signed_off bench.station hub.book.posted)
  pub register_is : ended.register ≡ register
  pub left : (O : List Entry) (A : List Arrival) → StandsFor holding hub O A
      → LeavesDesk asks bench day holding hub ended O A i i' o o' l l' fault

-- The desk's station has signed off. Nothing was read, written, logged or changed.
pub record IsSignedOff {R : Type 0} (station : ℕ) (hub : State R) (register : R)
    (i i' o o' l l' : Option (List ℕ)) (fault : WorkFault) : Type 0 where
  pub is : fault ≡ SignedOff
  pub signed : IsTrue (is_signed_off station hub.book.posted)
  pub same : register ≡ hub.register
  pub unread : i' ≡ i
  pub unwritten : o' ≡ o
  pub unlogged : l' ≡ l

-- A desk stopped: its station has signed off, or a fault came in its lines.
abbrev pub StopsDesk : {R : Type 0} → Asks → Bench → Option ℤ → (R → Holding) → State R → R
    → Option (List ℕ) → Option (List ℕ) → Option (List ℕ) → Option (List ℕ) → Option (List ℕ)
    → Option (List ℕ) → WorkFault → Type 0
StopsDesk asks bench day holding hub register i i' o o' l l' fault =
    IsSignedOff bench.station hub register i i' o o' l l' fault
    ⊎ StopsLines asks bench day holding hub register i i' o o' l l' fault

-- The work stopped, and what it left: the register, and the text that was written.
abbrev pub Stops : {R : Type 0} → Asks → (R → Holding) → State R → R → Work → Option (List ℕ)
    → Option (List ℕ) → Option (List ℕ) → Option (List ℕ) → Option (List ℕ) → Option (List ℕ)
    → WorkFault → Type 0
Stops asks holding hub register (Replay why) i i' o o' l l' fault =
    StopsReplay holding hub register i i' o o' fault
Stops asks holding hub register (Print question form upto) i i' o o' l l' fault =
    (register ≡ hub.register)
    × StopsReport o o' (report_text form (as_of upto hub.book) question) fault
Stops asks holding hub register (Serve feeds) i i' o o' l l' fault =
    StopsServing holding hub register feeds.items
Stops asks holding hub register (works.Desk bench day) i i' o o' l l' fault =
    StopsDesk asks bench day holding hub register i i' o o' l l' fault

-- No hub was opened over the register `before`. Nothing was read, written or logged.
pub record NotOpened {R : Type 0} (holding : R → Holding) (S : Museum) (before register : R)
    (i i' o o' l l' : Option (List ℕ)) (fault : WorkFault) : Type 0 where
  pub cause : StoreFault
  pub is : fault ≡ of_store cause
  pub comes : Comes (holding before) (holding register) (IsNotOpened S cause)
  pub unread : i' ≡ i
  pub unwritten : o' ≡ o
  pub unlogged : l' ≡ l

-- A hub was opened over the register `before`, and the work stopped.
pub record OpenedAndStopped {R : Type 0} (asks : Asks) (holding : R → Holding) (S : Museum)
    (before register : R) (work : Work) (i i' o o' l l' : Option (List ℕ)) (fault : WorkFault) :
    Type 0 where
  pub hub : State R
  pub opened : Opened holding S before hub
  pub stopped : Stops asks holding hub register work i i' o o' l l' fault

abbrev pub Stopped : {R : Type 0} → Asks → (R → Holding) → Museum → R → R → Work
    → Option (List ℕ) → Option (List ℕ) → Option (List ℕ) → Option (List ℕ) → Option (List ℕ)
    → Option (List ℕ) → WorkFault → Type 0
Stopped asks holding S before register work i i' o o' l l' fault =
    NotOpened holding S before register i i' o o' l l' fault
    ⊎ OpenedAndStopped asks holding S before register work i i' o o' l l' fault

-- No hub was opened for a session without a store. Nothing was read, written or logged.
pub record IsNotBegun (S : Museum) (i i' o o' l l' : Option (List ℕ)) (fault : WorkFault) :
    Type 0 where
  pub cause : StoreFault
  pub why : IsSessionFault S cause
  pub is : fault ≡ of_store cause
  pub unread : i' ≡ i
  pub unwritten : o' ≡ o
  pub unlogged : l' ≡ l

-- A hub without a store, and with nothing posted, was opened, and its work stopped.
pub record BegunAndStopped (asks : Asks) (S : Museum) (work : Work)
    (i i' o o' l l' : Option (List ℕ)) (fault : WorkFault) : Type 0 where
  pub hub : State NoStore
  pub fresh : IsFresh in_no_store hub S
  pub after : NoStore
  pub stopped : Stops asks in_no_store hub after work i i' o o' l l' fault

abbrev pub StoppedAlone : Asks → Museum → Work → Option (List ℕ) → Option (List ℕ)
    → Option (List ℕ) → Option (List ℕ) → Option (List ℕ) → Option (List ℕ)
    → WorkFault → Type 0
StoppedAlone asks S work i i' o o' l l' fault =
    IsNotBegun S i i' o o' l l' fault ⊎ BegunAndStopped asks S work i i' o o' l l' fault
