-- Defines where a list of arrivals leads from a list of posted entries: which messages are held,
-- which are posted, and the replies. Entries are listed newest first, arrivals oldest first.
use Rattle.std.specs.Prelude.{ℕ, ◌<◌, All, ◌+◌, ◌-◌, ◌==◌, if◌then◌else◌, Bool, true, false, List}
use Rattle.std.specs.Prelude.{[], ◌∷◌, ◌++◌, length, fold, map, reverse, Option, Some, None}
use Rattle.std.specs.Option.{option_map_or}
use Rattle.nest_core.specs.Museum.{Museum, find_thing}
use Rattle.posting_core.specs.declared.message.Message.{Message}
use Rattle.posting_core.specs.declared.entry.Entry.{Entry}
use Rattle.posting_core.specs.Messages.{is_sign_off}
use Rattle.posting_core.specs.History.{place_at, chain_at}
use Rattle.posting_core.specs.Verdicts.{verdict}
use Rattle.station_core.specs.declared.Refusal.{Refusal}
use Rattle.station_core.specs.Runs.{Arrived, arrived, ready, refusal, taken_after, due}
use Rattle.hub_core.specs.declared.hub.answer.Arrival.{Arrival}
use Rattle.hub_core.specs.declared.hub.answer.Answer.{Answer}
use Rattle.hub_core.specs.declared.hub.answer.Answer.TheVariants.{Refused, Held, Posted}
use Rattle.hub_core.specs.declared.hub.answer.Where.{Where}
use Rattle.hub_core.specs.declared.hub.answer.Where.TheVariants.{UnknownThing, Unplaced, At}

-- An arrival in the form that hold-back uses.
abbrev pub seen : Arrival → Arrived Message
seen r = arrived r.station r.n r.message

-- The message of an entry in the form that hold-back uses.
abbrev pub arrival_of : Entry → Arrived Message
arrival_of e = arrived e.station e.n e.message

-- A message as the entry after P, with the verdict that P leads to.
abbrev pub entry_of : Museum → ℕ → List Entry → Arrived Message → Entry
entry_of S depth P r =
    record {
      station = r.station;
      n = r.n;
      message = r.message;
      verdict = verdict S depth P r.message;
    }

-- P with the message posted.
abbrev pub post : Museum → ℕ → List Entry → Arrived Message → List Entry
post S depth P r = entry_of S depth P r ∷ P

-- The posted entries, and the messages taken.
pub record Point : Type 0 where
  pub posted : List Entry
  pub taken : List (Arrived Message)

-- The point once `taken` is the list of messages taken: the due messages of station s are posted,
-- in order.
abbrev pub point_with : Museum → ℕ → Point → ℕ → List (Arrived Message) → Point
point_with S depth p s taken = record {
  posted = fold (post S depth) p.posted
      (due taken s (ready is_sign_off p.taken s)
      (ready is_sign_off taken s - ready is_sign_off p.taken s));
  taken = taken;
}

-- The point after one more arrival.
abbrev pub point_after : Museum → ℕ → Point → Arrival → Point
point_after S depth p r =
    point_with S depth p r.station (taken_after is_sign_off (length S.stations) p.taken (seen r))

-- The point after the arrivals A, one after another, from the posted list O.
abbrev pub point : Museum → ℕ → List Entry → List Arrival → Point
point S depth O A =
    fold (point_after S depth) (record { posted = O; taken = map arrival_of (reverse O) }) A

-- The messages that are due after one more arrival.
abbrev pub due_with : Museum → ℕ → List Entry → List Arrival → Arrival → List (Arrived Message)
due_with S depth O A r =
    let before = (point S depth O A).taken in
    let taken = taken_after is_sign_off (length S.stations) before (seen r) in
    due taken r.station (ready is_sign_off before r.station)
    (ready is_sign_off taken r.station - ready is_sign_off before r.station)

-- The posted list after the arrivals A, from the posted list O.
abbrev pub posted : Museum → ℕ → List Entry → List Arrival → List Entry
posted S depth O A = (point S depth O A).posted

-- The reply to an arrival: its refusal; Held if nothing is posted with it; otherwise the numbers of
-- the first and the last entry posted with it.
abbrev pub reply_from : Option Refusal → ℕ → ℕ → Answer
reply_from (Some refusal) before now = Refused refusal
reply_from None before now = if before == now then Held else Posted (before + 1) now

-- The reply to an arrival after the arrivals A.
abbrev pub reply : Museum → ℕ → List Entry → List Arrival → Arrival → Answer
reply S depth O A r =
    let p = point S depth O A in
    reply_from (refusal is_sign_off (length S.stations) p.taken r.station r.n) (length p.posted)
    (length (point_after S depth p r).posted)

-- Where a thing with this place and these containers above it is.
abbrev pub where_from : Option ℕ → List ℕ → Where
where_from None chain = Unplaced
where_from (Some place) chain = At place chain

-- Where the thing with this code is after P: unknown, without a place, or at a place with the
-- containers above it.
abbrev pub whereabouts : Museum → List Entry → List ℕ → Where
whereabouts S P code =
    option_map_or (λ x. where_from (place_at S P x) (chain_at S P x))
    (find_thing S code) UnknownThing

-- The thing is in a container.
abbrev pub is_enclosed : Where → Bool
is_enclosed UnknownThing = false
is_enclosed Unplaced = false
is_enclosed (At place []) = false
is_enclosed (At place (c ∷ more)) = true

-- The posted messages of station s, in their order.
abbrev pub cut : ℕ → List Entry → List (Arrived Message)
cut s [] = []
cut s (e ∷ P) = if e.station == s then cut s P ++ arrival_of e ∷ [] else cut s P

-- The place and the containers are in the setup.
abbrev pub IsPlaced : Museum → Where → Type 0
IsPlaced S UnknownThing = Unit {0}
IsPlaced S Unplaced = Unit {0}
IsPlaced S (At place chain) = (place < length S.places) × All (λ c. c < length S.things) chain
