-- Defines a hub and the arrivals that it stands for, which the contracts of its calls are about.
use Rattle.std.specs.Prelude.{ℕ, ◌≡◌, ◌-◌, ◌<◌, ◌≤◌, ◌⊎◌, ◌++◌, ◌∷◌, Bool, true, false, List}
use Rattle.std.specs.Prelude.{[], length, fold, take}
use Rattle.nest_core.specs.Museum.{Museum}
use Rattle.posting_core.specs.declared.message.Message.{Message}
use Rattle.posting_core.specs.declared.entry.Entry.{Entry}
use Rattle.posting_core.specs.Messages.{is_sign_off}
use Rattle.posting_core.specs.Lawful.{count_at, is_signed_off, IsLawful}
use Rattle.posting_core.specs.Book.{Book}
use Rattle.station_core.specs.Series.{Series, series_at}
use Rattle.station_core.specs.Runs.{Arrived, ready, due}
use Rattle.station_core.specs.Progress.{AllMatch}
use Rattle.register_store.specs.StoredRows.{IsStoreOf}
use Rattle.register_store.specs.declared.plain.TheConstants.{NEW_DEPTH}
use Rattle.register_store.specs.Holdings.{Holding, Has}
use Rattle.hub_core.specs.declared.hub.answer.Arrival.{Arrival}
use Rattle.hub_core.specs.Points.{point, post, due_with}

-- A hub: the series of its stations, its ledger, its register, and whether it is down. A hub that
-- is down refuses every call.
pub record State (R : Type 0) : Type 0 where
  pub sequences : List (Series Message)
  pub book : Book
  pub register : R
  pub down : Bool

-- If the store is quiet, its rows are those of the ledger's posted list.
abbrev pub HasStore : Holding → Book → Type 0
HasStore store book = Has store (IsStoreOf book.museum book.depth book.posted)

-- If the store is quiet, its rows are those of some lawful list, with no fewer entries than are
-- posted.
abbrev pub HasSomeStore : Holding → Book → Type 0
HasSomeStore store book =
    Has store (λ c. (P : List Entry) × (length book.posted ≤ length P)
    × IsLawful book.museum book.depth P × IsStoreOf book.museum book.depth P c)

-- If the store is quiet, its rows are those of P, or of P with the next message posted.
abbrev pub HasEither : Holding → Museum → ℕ → List Entry → Arrived Message → Type 0
HasEither store S depth P next =
    Has store (λ c. IsStoreOf S depth P c ⊎ IsStoreOf S depth (post S depth P next) c)

-- A hub stands for the arrivals A, from the posted list O, if it isn't down, the arrivals lead to
-- its posted list, its stations hold the messages that were taken and are still to be posted, and
-- its store has the posted list.
pub record StandsFor {R : Type 0} (holding : R → Holding) (hub : State R) (O : List Entry)
    (A : List Arrival) : Type 0 where
  pub up : hub.down ≡ false
  pub list : hub.book.posted ≡ (point hub.book.museum hub.book.depth O A).posted
  pub series : AllMatch is_sign_off (point hub.book.museum hub.book.depth O A).taken hub.sequences
  pub stored : HasStore (holding hub.register) hub.book

-- The hub has this setup, and nothing posted.
pub record IsFresh {R : Type 0} (holding : R → Holding) (hub : State R) (S : Museum)
    : Type 0 where
  pub museum : hub.book.museum ≡ S
  pub depth : hub.book.depth ≡ NEW_DEPTH
  pub stands : StandsFor holding hub [] []

-- A fault stopped posting at message `next`. Those before it are posted, and the store has that
-- list, with or without `next`.
pub record Stopped (store : Holding) (S : Museum) (depth : ℕ) (before : List Entry)
    (messages : List (Arrived Message)) (now : List Entry) : Type 0 where
  pub done : List (Arrived Message)
  pub next : Arrived Message
  pub rest : List (Arrived Message)
  pub all : messages ≡ done ++ next ∷ rest
  pub list : now ≡ fold (post S depth) before done
  pub stored : HasEither store S depth now next

-- The stations' counts and sign-offs are those of the posted list.
pub record InStep (sequences : List (Series Message)) (S : Museum) (P : List Entry) : Type 0 where
  pub stations : length sequences ≡ length S.stations
  pub count : (s : ℕ) → s < length sequences → (series_at sequences s).posted ≡ count_at s P
  pub sign : (s : ℕ) → s < length sequences → (series_at sequences s).signed ≡ is_signed_off s P

-- All due messages of station s are posted. k of its messages were posted before.
pub record Done (S : Museum) (depth : ℕ) (taken : List (Arrived Message)) (s k : ℕ)
    (before : List Entry) (sequences : List (Series Message)) (now : List Entry) : Type 0 where
  pub matches : AllMatch is_sign_off taken sequences
  pub list : now ≡ fold (post S depth) before (due taken s k (ready is_sign_off taken s - k))

-- A fault stopped the hub at one of the arrivals. Those before it are taken. Some of the messages
-- that it made due are posted, and the store has that list, with or without the next message.
pub record StopsIn {R : Type 0} (holding : R → Holding) (hub : State R) (O : List Entry)
    (A sent : List Arrival) : Type 0 where
  pub down : hub.down ≡ true
  pub before : List Arrival
  pub arrival : Arrival
  pub after : List Arrival
  pub all : sent ≡ before ++ arrival ∷ after
  pub stopped : Stopped (holding hub.register) hub.book.museum hub.book.depth
      (point hub.book.museum hub.book.depth O (A ++ before)).posted
      (due_with hub.book.museum hub.book.depth O (A ++ before) arrival) hub.book.posted

-- The hub has taken the first k of the arrivals, or was stopped at one of them.
abbrev pub TakesSome : {R : Type 0} → (R → Holding) → State R → List Entry → List Arrival
    → List Arrival → Type 0
TakesSome holding hub O A sent =
    ((k : ℕ) × StandsFor holding hub O (A ++ take k sent)) ⊎ StopsIn holding hub O A sent
