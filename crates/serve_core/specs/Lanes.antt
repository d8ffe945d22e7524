-- Defines the views of lanes. A lane carries the items of one station from its thread to the one
-- thread that calls the hub; a ring is the end of a lane from which items are taken.
use Rattle.std.specs.Prelude.{◌≡◌, ℕ, ◌<◌, List, [], ◌∷◌, ◌++◌, length, slice_get, Option, Some}
use Rattle.std.specs.Prelude.{None}
use Rattle.std.specs.List.{AllZip}
use Rattle.std.specs.declared.alloc.Global.{Global}
use Rattle.rtrb.specs.Ring.{sent, received, IsPair, Finishes, all_sent, IsFinishedOf, SameProducer}
use Rattle.rtrb.specs.Ring.{SameConsumer}
use Rattle.rtrb.specs.declared.consumer.Consumer.{Consumer}
use Rattle.rtrb.specs.declared.AnyItems.{AnyItems}
use Rattle.serve_core.specs.declared.item.Item.{Item}
use Rattle.serve_core.specs.declared.item.LogLine.{LogLine}
use Rattle.serve_core.specs.declared.lane.Lane.{Lane}
use Rattle.serve_core.specs.declared.lane.LaneEnd.{LaneEnd}
use Rattle.serve_core.specs.Logs.{items_of, AreOfStations}

-- The end of a lane from which items are taken.
abbrev pub Ring : Type 0
Ring = Consumer Item Global AnyItems

-- All items that were ever taken from the ring.
abbrev pub received_is : Ring → List Item
received_is c = received c

-- All items that were ever sent through the lane.
abbrev pub sent_items : Lane → List Item
sent_items l = sent l.producer

-- All items that were sent through the lane that ended.
abbrev pub end_items : LaneEnd → List Item
end_items e = all_sent e.finished

-- Both are states of one lane.
abbrev pub SameLane : Lane → Lane → Type 0
SameLane a b = SameProducer a.producer b.producer

-- The end of this lane, with everything that was sent through it.
abbrev pub IsEndOf : Lane → LaneEnd → Type 0
IsEndOf l e = Finishes l.producer e.finished

-- A lane through which nothing was sent yet, and its ring.
abbrev pub IsFresh : Lane → Ring → Type 0
IsFresh l c = IsPair l.producer c × (sent_items l ≡ []) × (received_is c ≡ [])

-- The end of the lane of this ring.
abbrev pub IsEndOn : LaneEnd → Ring → Type 0
IsEndOn e c = IsFinishedOf e.finished c

abbrev pub received_of : Option Ring → List Item
received_of None = []
received_of (Some c) = received_is c

-- The items taken from the ring of station s. Empty if there is no ring.
abbrev pub received_at : List Ring → ℕ → List Item
received_at cs s = received_of (slice_get cs s)

abbrev pub ended_of : Option LaneEnd → List Item
ended_of None = []
ended_of (Some e) = end_items e

-- The items sent through the lane of station s, which has ended. Empty if there is no lane.
abbrev pub ended_at : List LaneEnd → ℕ → List Item
ended_at es s = ended_of (slice_get es s)

-- The second list starts with the first.
abbrev pub Begins : List Item → List Item → Type 0
Begins xs ys = (rest : List Item) × (ys ≡ xs ++ rest)

-- Ends of the same lanes, with the same items.
abbrev pub SameEnds : List LaneEnd → List LaneEnd → Type 0
SameEnds before after =
    (length after ≡ length before) × ((s : ℕ) → ended_at after s ≡ ended_at before s)

-- Each line is of station s.
abbrev pub AreOf : ℕ → List LogLine → Type 0
AreOf s [] = Unit {0}
AreOf s (l ∷ G) = (l.station ≡ s) × AreOf s G

-- The items of these lines were taken from the ring of station s, in order, and nothing more.
pub record TakesOf (s : ℕ) (before after : Ring) (G : List LogLine) : Type 0 where
  pub ring : SameConsumer before after
  pub of : AreOf s G
  pub taken : received_is after ≡ received_is before ++ items_of s G

-- The items of these lines were taken from the rings of their stations, in order, and nothing more.
pub record Takes (before after : List Ring) (G : List LogLine) : Type 0 where
  pub rings : AllZip SameConsumer before after
  pub stations : AreOfStations (length before) G
  pub taken : (s : ℕ) → received_at after s ≡ received_at before s ++ items_of s G

-- The items of these lines were taken, and then perhaps more, which were dropped.
pub record TakesSome (before after : List Ring) (G : List LogLine) : Type 0 where
  pub rings : AllZip SameConsumer before after
  pub stations : AreOfStations (length before) G
  pub taken : (s : ℕ) → Begins (received_at before s ++ items_of s G) (received_at after s)

-- With these lines, everything that was sent through each lane has been taken.
abbrev pub TakesLeft : List Ring → List LaneEnd → List LogLine → Type 0
TakesLeft cs es G = (s : ℕ) → s < length cs → received_at cs s ++ items_of s G ≡ ended_at es s

-- With these lines, the items taken are the first of those sent through each lane, perhaps all.
abbrev pub TakesFront : List Ring → List LaneEnd → List LogLine → Type 0
TakesFront cs es G =
    (s : ℕ) → s < length cs → Begins (received_at cs s ++ items_of s G) (ended_at es s)
