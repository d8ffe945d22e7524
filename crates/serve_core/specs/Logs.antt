-- Defines the log of a serving: a line for each item taken from a station, with the reply to it,
-- oldest first.
use Rattle.std.specs.Prelude.{◌≡◌, ℕ, ◌+◌, ◌<◌, ◌≤◌, ◌==◌, ◌⊎◌, List, [], ◌∷◌, ◌++◌, filter, map}
use Rattle.std.specs.Prelude.{flat_map, All}
use Rattle.hub_core.specs.declared.hub.answer.Arrival.{Arrival}
use Rattle.nest_core.specs.Museum.{Museum}
use Rattle.posting_core.specs.declared.entry.Entry.{Entry}
use Rattle.hub_core.specs.Points.{posted, reply, whereabouts, IsPlaced}
use Rattle.register_store.specs.Holdings.{Holding}
use Rattle.hub_core.specs.StandsFor.{State, StandsFor, StopsIn}
use Rattle.serve_core.specs.declared.item.Item.{Item}
use Rattle.serve_core.specs.declared.item.Item.TheVariants.{Scan, Ask, Bad}
use Rattle.serve_core.specs.declared.item.Reply.{Reply}
use Rattle.serve_core.specs.declared.item.Reply.TheVariants.{Answered, Found, Unread}
use Rattle.serve_core.specs.declared.item.LogLine.{LogLine}

-- The arrival of an item of station s. A question and a faulty line have none.
abbrev pub sent_item : ℕ → Item → List Arrival
sent_item s (Scan n message) = record { station = s; n = n; message = message } ∷ []
sent_item s (Ask code) = []
sent_item s (Bad line fault) = []

-- The reply to an item of station s after the arrivals A: to a message the hub's reply, to a
-- question where the thing then is, to a faulty line Unread.
abbrev pub item_reply : Museum → ℕ → List Entry → List Arrival → ℕ → Item → Reply
item_reply S depth O A s (Scan n message) =
    Answered (reply S depth O A (record { station = s; n = n; message = message }))
item_reply S depth O A s (Ask code) = Found (whereabouts S (posted S depth O A) code)
item_reply S depth O A s (Bad line fault) = Unread

-- The arrivals of the log's lines, in their order.
abbrev pub log_arrivals : List LogLine → List Arrival
log_arrivals G = flat_map (λ l. sent_item l.station l.item) G

-- Each reply is that after the arrivals A and those of the lines before it.
abbrev pub IsAnswered : Museum → ℕ → List Entry → List Arrival → List LogLine → Type 0
IsAnswered S depth O A [] = Unit {0}
IsAnswered S depth O A (l ∷ G) =
    (l.reply ≡ item_reply S depth O A l.station l.item)
    × IsAnswered S depth O (A ++ sent_item l.station l.item) G

-- The items of station s, in the order of the log.
abbrev pub items_of : ℕ → List LogLine → List Item
items_of s G = map (λ l. l.item) (filter (λ l. l.station == s) G)

-- A place in the reply, and the containers above it, are in the setup.
abbrev pub IsPlacedReply : Museum → Reply → Type 0
IsPlacedReply S (Answered answer) = Unit {0}
IsPlacedReply S (Found place) = IsPlaced S place
IsPlacedReply S Unread = Unit {0}

-- The line has this station and this item.
abbrev pub IsLineOf : ℕ → Item → LogLine → Type 0
IsLineOf s item l = (l.station ≡ s) × (l.item ≡ item)

-- For every list of arrivals that the hub stood for, the log's replies are right. The setup and the
-- depth limit stay.
pub record Answers {R : Type 0} (holding : R → Holding) (before after : State R)
    (G : List LogLine) : Type 0 where
  pub museum : after.book.museum ≡ before.book.museum
  pub depth : after.book.depth ≡ before.book.depth
  pub placed : All (λ l. IsPlacedReply before.book.museum l.reply) G
  pub answered : (O : List Entry) (A : List Arrival) → StandsFor holding before O A
      → IsAnswered before.book.museum before.book.depth O A G

-- The hub took the lines of the log: their replies are right, and for every list of arrivals that
-- it stood for, it stands for the list with the log's arrivals added.
pub record Serves {R : Type 0} (holding : R → Holding) (before after : State R)
    (G : List LogLine) : Type 0 where
  pub answers : Answers holding before after G
  pub stands : (O : List Entry) (A : List Arrival) → StandsFor holding before O A
      → StandsFor holding after O (A ++ log_arrivals G)

-- A fault came with these arrivals: the hub has taken none of them, or was stopped at one.
abbrev pub Meets : {R : Type 0} → (R → Holding) → State R → List Entry → List Arrival
    → List Arrival → Type 0
Meets holding hub O A sent = StandsFor holding hub O A ⊎ StopsIn holding hub O A sent

-- The hub took the lines of the log, and then a fault came with an item of station s: the hub has
-- nothing of the item, or was stopped at it.
pub record ServesTo {R : Type 0} (holding : R → Holding) (before after : State R)
    (G : List LogLine) (s : ℕ) (item : Item) : Type 0 where
  pub answers : Answers holding before after G
  pub meets : (O : List Entry) (A : List Arrival) → StandsFor holding before O A
      → Meets holding after O (A ++ log_arrivals G) (sent_item s item)

-- The item that met a fault, as a log line, so that it can be counted with the lines taken before
-- it. No log has this line.
abbrev pub dropped : ℕ → Item → LogLine
dropped s item = record { station = s; item = item; reply = Unread }

-- At most one line of each station from `low` up to, but not including, `high`, in ascending order.
abbrev pub Ascends : ℕ → ℕ → List LogLine → Type 0
Ascends low high [] = Unit {0}
Ascends low high (l ∷ G) = (low ≤ l.station) × (l.station < high) × Ascends (l.station + 1) high G

-- Each line is of one of this many stations.
abbrev pub AreOfStations : ℕ → List LogLine → Type 0
AreOfStations count G = All (λ l. l.station < count) G
