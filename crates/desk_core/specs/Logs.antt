-- Defines the log of a desk: a JSON line for each message of its station. `l` and `l'` are the
-- bytes that the log holds before and after.
use Rattle.std.specs.Prelude.{ℕ, ◌==◌, ◌++◌, ◌∷◌, [], List, Option, None, Some}
use Rattle.std.specs.Prelude.{if◌then◌else◌, take}
use Rattle.std.specs.Io.KnownBytes.{Appends}
use Rattle.nest_core.specs.Museum.{Museum}
use Rattle.posting_core.specs.declared.entry.Entry.{Entry}
use Rattle.register_store.specs.Holdings.{Holding}
use Rattle.register_store.specs.SentLines.{sent_line}
use Rattle.hub_core.specs.declared.hub.answer.Arrival.{Arrival}
use Rattle.hub_core.specs.LineText.{station_text}
use Rattle.hub_core.specs.StandsFor.{State, StandsFor, TakesSome}

-- The bytes of the log. They aren't known if there is no log.
abbrev pub log_of : {L : Type 0} → (L → Option (List ℕ)) → Option L → Option (List ℕ)
log_of contents None = None
log_of contents (Some log) = contents log

-- The line of an arrival, with its line feed.
abbrev pub log_line : Museum → Arrival → List ℕ
log_line S r = sent_line (station_text S r.station) r.n r.message ++ 10 ∷ []

-- The lines of the arrivals of station s, in their order.
abbrev pub log_text : Museum → ℕ → List Arrival → List ℕ
log_text S s [] = []
log_text S s (r ∷ A) = (if r.station == s then log_line S r else []) ++ log_text S s A

-- The log has k bytes of the text. The hub has taken no arrival of the line.
pub record LogStops {Q : Type 0} (holding : Q → Holding) (hub : State Q) (O : List Entry)
    (A : List Arrival) (l l' : Option (List ℕ)) (past text : List ℕ) : Type 0 where
  pub k : ℕ
  pub logged : Appends l l' (past ++ take k text)
  pub stands : StandsFor holding hub O A

-- The log has the whole text. The hub has taken the arrivals of the line, or not, or was stopped at
-- one.
pub record HubStops {Q : Type 0} (holding : Q → Holding) (hub : State Q) (O : List Entry)
    (A sent : List Arrival) (l l' : Option (List ℕ)) (past text : List ℕ) : Type 0 where
  pub logged : Appends l l' (past ++ text)
  pub stands : TakesSome holding hub O A sent
