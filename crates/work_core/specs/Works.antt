-- Defines the work of a command on a record, and what it leaves. `i` and `i'` are the bytes that
-- the reader has left before and after, `o` and `o'` those that the writer holds, and `l` and `l'`
-- those that the log of a desk holds.
use Rattle.std.specs.Prelude.{ℕ, ℤ, ◌≡◌, ◌<◌, ⊤, IsFalse, List, Option, None, reverse, vec_len}
use Rattle.std.specs.List.{flat_map}
use Rattle.std.specs.Io.KnownBytes.{Appends}
use Rattle.hub_core.specs.declared.hub.answer.Arrival.{Arrival}
use Rattle.hub_core.specs.declared.outcome.Outcome.{Outcome}
use Rattle.hub_core.specs.Openings.{Opened}
use Rattle.hub_core.specs.Outcomes.{Watched}
use Rattle.hub_core.specs.StandsFor.{State, StandsFor, IsFresh}
use Rattle.nest_core.specs.Museum.{Museum}
use Rattle.posting_core.specs.Past.{as_of}
use Rattle.posting_core.specs.declared.entry.Entry.{Entry}
use Rattle.posting_core.specs.Lawful.{is_signed_off}
use Rattle.register_store.specs.Holdings.{Holding}
use Rattle.register_store.specs.NoStore.{in_no_store}
use Rattle.register_store.specs.declared.no_store.NoStore.{NoStore}
use Rattle.reports.specs.Reports.{report_text}
use Rattle.serve_core.specs.declared.item.Item.{Item}
use Rattle.serve_core.specs.declared.item.LogLine.{LogLine}
use Rattle.serve_core.specs.Logs.{Serves}
use Rattle.serve_core.specs.Sending.{IsMerge}
use Rattle.serve_core.specs.Wording.{logged_text}
use Rattle.work_core.specs.declared.work.Work.{Work}
use Rattle.desk_core.specs.declared.bench.Bench.{Bench}
use Rattle.desk_core.specs.Answers.{Asks}
use Rattle.desk_core.specs.Sessions.{Answered}
use Rattle.desk_core.specs.declared.desk.Desk.{Desk}
use Rattle.work_core.specs.declared.work.Work.TheVariants as works
use Rattle.work_core.specs.declared.work.Work.TheVariants.{Replay, Print, Serve}

-- The work is one for n stations: a serving has a feed for each, and a desk is that of one.
abbrev pub FitsStations : ℕ → Work → Type 0
FitsStations n (Replay why) = ⊤
FitsStations n (Print question form upto) = ⊤
FitsStations n (Serve feeds) = vec_len feeds ≡ n
FitsStations n (works.Desk bench day) = bench.station < n

-- The work writes no log: it is none of a desk.
abbrev pub HasNoLog : Work → Type 0
HasNoLog (works.Desk bench day) = ⊥
HasNoLog _ = ⊤

-- All lines that were read are answered, and the watch has seen their outcomes. The register is
-- that of a hub that has taken the messages of these lines.
pub record HasReplayed {R : Type 0} (holding : R → Holding) (hub : State R) (register : R)
    (had_seen has_seen : List Outcome → Type 0) (i i' o o' : Option (List ℕ)) : Type 0 where
  pub ended : State R
  pub register_is : ended.register ≡ register
  pub answered : (O : List Entry) (A : List Arrival) → StandsFor holding hub O A
      → Watched hub.book.museum hub.book.depth O A i i' o o' holding ended had_seen has_seen

-- All items of the feeds are answered, and the log is written. The register is that of a hub that
-- has taken the log's messages.
pub record HasServed {R : Type 0} (holding : R → Holding) (hub : State R) (register : R)
    (feeds : List (List Item)) (o o' : Option (List ℕ)) : Type 0 where
  pub ended : State R
  pub register_is : ended.register ≡ register
  pub log : List LogLine
  pub merge : IsMerge feeds log
  pub serves : Serves holding hub ended log
  pub written : Appends o o'
      (flat_map (logged_text ended.book.museum (reverse ended.book.posted)) log)

-- A desk before its first line: it has no target.
abbrev pub new_desk : Option ℤ → Desk
new_desk day = record { target = None; day = day }

-- The desk's station has not signed off, and all lines of the input are answered. The register is
-- that of a hub that has taken their messages.
pub record HasWorkedAt {R : Type 0} (asks : Asks) (bench : Bench) (day : Option ℤ)
    (holding : R → Holding) (hub : State R) (register : R) (i i' o o' l l' : Option (List ℕ)) :
    Type 0 where
  pub ended : State R
  pub unsigned : IsFalse (is_signed_off bench.station hub.book.posted)
  pub register_is : ended.register ≡ register
  pub answered : (O : List Entry) (A : List Arrival) → StandsFor holding hub O A
      → Answered hub.book.museum hub.book.depth O A asks bench (new_desk day) i i' o o' l l'
      holding ended

-- The work that was done with a hub, and what it left: the register, and the text that was written.
-- `asks` is which question the words of a report ask at a desk.
abbrev pub Does : {R : Type 0} → Asks → (R → Holding) → State R → R → Work
    → (List Outcome → Type 0) → (List Outcome → Type 0) → Option (List ℕ) → Option (List ℕ)
    → Option (List ℕ) → Option (List ℕ) → Option (List ℕ) → Option (List ℕ) → Type 0
Does asks holding hub register (Replay why) had_seen has_seen i i' o o' l l' =
    HasReplayed holding hub register had_seen has_seen i i' o o'
Does asks holding hub register (Print question form upto) had_seen has_seen i i' o o' l l' =
    (register ≡ hub.register) × Appends o o' (report_text form (as_of upto hub.book) question)
Does asks holding hub register (Serve feeds) had_seen has_seen i i' o o' l l' =
    HasServed holding hub register feeds.items o o'
Does asks holding hub register (works.Desk bench day) had_seen has_seen i i' o o' l l' =
    HasWorkedAt asks bench day holding hub register i i' o o' l l'

-- A hub was opened over the register `before`, and did the work.
pub record Did {R : Type 0} (asks : Asks) (holding : R → Holding) (S : Museum)
    (before register : R) (work : Work) (had_seen has_seen : List Outcome → Type 0)
    (i i' o o' l l' : Option (List ℕ)) : Type 0 where
  pub hub : State R
  pub opened : Opened holding S before hub
  pub done : Does asks holding hub register work had_seen has_seen i i' o o' l l'

-- A hub without a store, and with nothing posted, did the work.
pub record DidAlone (asks : Asks) (S : Museum) (work : Work)
    (had_seen has_seen : List Outcome → Type 0) (i i' o o' l l' : Option (List ℕ)) :
    Type 0 where
  pub hub : State NoStore
  pub fresh : IsFresh in_no_store hub S
  pub after : NoStore
  pub done : Does asks in_no_store hub after work had_seen has_seen i i' o o' l l'
