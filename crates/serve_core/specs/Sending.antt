-- Defines the items that the stations' threads send, the lanes that they hand back, and how a
-- serving can end.
use Rattle.std.specs.Prelude.{ℕ, ◌≡◌, ◌<◌, ◌≤◌, ◌+◌, ◌-◌, ◌^◌, min, true, Option, Some, None, ◌⊎◌}
use Rattle.std.specs.Prelude.{List, [], ◌∷◌, ◌++◌, length, slice_get, unwrap_or}
use Rattle.rtrb.specs.Ring.{IsPair}
use Rattle.hub_core.specs.declared.hub.answer.HubFault.{HubFault}
use Rattle.hub_core.specs.declared.hub.answer.HubFault.TheVariants as hub
use Rattle.serve_core.specs.declared.item.Item.{Item}
use Rattle.serve_core.specs.declared.item.LogLine.{LogLine}
use Rattle.serve_core.specs.declared.lane.Lane.{Lane}
use Rattle.serve_core.specs.declared.lane.LaneEnd.{LaneEnd}
use Rattle.serve_core.specs.declared.ending.Room.{Room}
use Rattle.serve_core.specs.declared.sending.Sent.{Sent}
use Rattle.serve_core.specs.declared.serve_fault.ServeFault.{ServeFault}
use Rattle.serve_core.specs.declared.serve_fault.ServeFault.TheVariants as serve
use Rattle.register_store.specs.Holdings.{Holding}
use Rattle.hub_core.specs.StandsFor.{State}
use Rattle.serve_core.specs.Logs.{items_of, AreOfStations, Serves, ServesTo, dropped}
use Rattle.serve_core.specs.Lanes.{Ring, received_at, sent_items, SameLane, IsEndOf, Begins}

-- The first of these items went through the lane that was handed back, and all of them if `whole`
-- is true.
pub record IsSent (sent : Sent) (items : List Item) : Type 0 where
  pub front : Begins (sent_items sent.lane) items
  pub whole : sent.whole ≡ true → sent_items sent.lane ≡ items

-- A station's thread sent its feed and hands back its own lane. After the items sent before, the
-- first items of the feed went through it, and all of them if the feed came to its end.
pub record Sends (lane : Lane) (items : List Item) (back : Sent) : Type 0 where
  pub same : SameLane lane back.lane
  pub back_is : IsSent back (sent_items lane ++ items)

-- The lane was only looked at: nothing more was sent through it.
pub record IsStill (before after : Sent) : Type 0 where
  pub same : SameLane before.lane after.lane
  pub items : sent_items after.lane ≡ sent_items before.lane
  pub whole : after.whole ≡ before.whole

-- The lane that was handed back is that of this ring.
abbrev pub IsSentTo : Sent → Ring → Type 0
IsSentTo sent c = IsPair sent.lane.producer c

-- The end of the lane that was handed back.
abbrev pub IsEndOfSent : Sent → LaneEnd → Type 0
IsEndOfSent sent e = IsEndOf sent.lane e

-- There is room for the results of this many threads, and for as many ends.
pub record HasRoom (count : ℕ) (room : Room) : Type 0 where
  pub few : count < 2 ^ 32
  pub none : room.found.items ≡ []
  pub found : count ≤ room.found.cap
  pub no_ends : room.ends.items ≡ []
  pub ends : count ≤ room.ends.cap

abbrev pub sent_of : Option Sent → List Item
sent_of None = []
sent_of (Some sent) = sent_items sent.lane

-- The items sent through the lane of station s. Empty if there is no lane.
abbrev pub sent_at : List Sent → ℕ → List Item
sent_at found s = sent_of (slice_get found s)

-- The items taken before, and then these lines, are the first of those sent through each lane,
-- perhaps all.
abbrev pub SentFront : List Ring → List Sent → List LogLine → Type 0
SentFront cs found G =
    (s : ℕ) → s < length cs → Begins (received_at cs s ++ items_of s G) (sent_at found s)

-- The items taken before, and then these lines, are all that were sent through each lane.
abbrev pub SentWhole : List Ring → List Sent → List LogLine → Type 0
SentWhole cs found G = (s : ℕ) → s < length cs → received_at cs s ++ items_of s G ≡ sent_at found s

-- A hub's fault as a serving's. The hub of a serving isn't down before its first fault.
abbrev pub serve_fault : HubFault → ServeFault
serve_fault hub.NoMemory = serve.NoMemory
serve_fault hub.Store = serve.Store
serve_fault hub.Down = serve.NoMemory

-- Store adds one to the register's count of refusals, up to 2^64 - 1. Any other fault leaves the
-- count as it was.
abbrev pub CountsServe : ℕ → ℕ → ServeFault → Type 0
CountsServe old new serve.NoMemory = new ≡ old
CountsServe old new serve.Store = new ≡ min (old + 1) (2 ^ 64 - 1)
CountsServe old new (serve.Unfinished s) = new ≡ old

-- A station in the fault is one of this many.
abbrev pub IsOneOf : ℕ → ServeFault → Type 0
IsOneOf count serve.NoMemory = Unit {0}
IsOneOf count serve.Store = Unit {0}
IsOneOf count (serve.Unfinished s) = s < count

-- The feed of station s.
abbrev pub items_at : List (List Item) → ℕ → List Item
items_at feeds s = unwrap_or (slice_get feeds s) []

-- The log is a merge of all feeds, each whole and in its order.
pub record IsMerge (feeds : List (List Item)) (G : List LogLine) : Type 0 where
  pub stations : AreOfStations (length feeds) G
  pub whole : (s : ℕ) → s < length feeds → items_of s G ≡ items_at feeds s

-- After a fault the log is a merge of the first items of each feed. A station in the fault has a
-- feed.
pub record AreFronts (feeds : List (List Item)) (G : List LogLine)
    (fault : ServeFault) : Type 0 where
  pub stations : AreOfStations (length feeds) G
  pub front : (s : ℕ) → s < length feeds → Begins (items_of s G) (items_at feeds s)
  pub named : IsOneOf (length feeds) fault

-- An item met the fault: it is the next of its feed after those in the log, and the hub has nothing
-- of it, or was stopped at it.
pub record Stops {R : Type 0} (holding : R → Holding) (before after : State R)
    (feeds : List (List Item)) (G : List LogLine) (fault : ServeFault) : Type 0 where
  pub station : ℕ
  pub item : Item
  pub served : ServesTo holding before after G station item
  pub fronts : AreFronts feeds (G ++ dropped station item ∷ []) fault

-- No item met the fault: the hub took the whole log and is down only if it was before.
pub record Leaves {R : Type 0} (holding : R → Holding) (before after : State R)
    (feeds : List (List Item)) (G : List LogLine) (fault : ServeFault) : Type 0 where
  pub served : Serves holding before after G
  pub level : after.down ≡ before.down
  pub fronts : AreFronts feeds G fault

-- The end after each fault: after NoMemory either of the two; after Store, an item met it and the
-- hub is down; after Unfinished, no item met it.
abbrev pub AfterFault : {R : Type 0} → (R → Holding) → State R → State R → List (List Item)
    → List LogLine → ServeFault → Type 0
AfterFault holding before after feeds G serve.NoMemory =
    Stops holding before after feeds G serve.NoMemory
    ⊎ Leaves holding before after feeds G serve.NoMemory
AfterFault holding before after feeds G serve.Store =
    Stops holding before after feeds G serve.Store × (after.down ≡ true)
AfterFault holding before after feeds G (serve.Unfinished s) =
    Leaves holding before after feeds G (serve.Unfinished s)

-- While the lanes were ended and their last items were logged, an item met the fault: it is the
-- next of its lane after those in the log.
pub record StopsLanes {R : Type 0} (holding : R → Holding) (before after : State R)
    (cs : List Ring) (found : List Sent) (old new : List LogLine) : Type 0 where
  pub lines : List LogLine
  pub station : ℕ
  pub item : Item
  pub log : new ≡ old ++ lines
  pub served : ServesTo holding before after lines station item
  pub stations : AreOfStations (length cs) (lines ++ dropped station item ∷ [])
  pub front : SentFront cs found (lines ++ dropped station item ∷ [])

-- While the lanes were ended, no item met the fault.
pub record LeavesLanes {R : Type 0} (holding : R → Holding) (before after : State R)
    (cs : List Ring) (found : List Sent) (old new : List LogLine) : Type 0 where
  pub lines : List LogLine
  pub log : new ≡ old ++ lines
  pub served : Serves holding before after lines
  pub level : after.down ≡ before.down
  pub stations : AreOfStations (length cs) lines
  pub front : SentFront cs found lines

-- How ending the lanes can end after each fault, as in `AfterFault`.
abbrev pub EndsLanes : {R : Type 0} → (R → Holding) → State R → State R → List Ring → List Sent
    → List LogLine → List LogLine → ServeFault → Type 0
EndsLanes holding before after cs found old new serve.NoMemory =
    StopsLanes holding before after cs found old new
    ⊎ LeavesLanes holding before after cs found old new
EndsLanes holding before after cs found old new serve.Store =
    StopsLanes holding before after cs found old new × (after.down ≡ true)
EndsLanes holding before after cs found old new (serve.Unfinished s) =
    LeavesLanes holding before after cs found old new × (s < length cs)
