-- Defines which requests can fail once they are read and their reply has room.
use Rattle.std.specs.Prelude.{ℕ, ◌≡◌, ◌+◌, ◌≤◌, Bool, true, false, List, Option, Some, None, Result}
use Rattle.std.specs.Prelude.{OnErr, String, string_len, string_capacity}
use Rattle.std.specs.declared.alloc.Global.{Global}
use Rattle.nest_core.specs.Museum.{Museum}
use Rattle.posting_core.specs.declared.entry.Entry.{Entry}
use Rattle.register_store.specs.Holdings.{Holding}
use Rattle.hub_core.specs.declared.hub.answer.Arrival.{Arrival}
use Rattle.hub_core.specs.declared.hub.answer.Answer.{Answer}
use Rattle.hub_core.specs.declared.hub.answer.Answer.TheVariants.{Refused, Held, Posted}
use Rattle.hub_core.specs.declared.hub.answer.HubFault.{HubFault}
use Rattle.hub_core.specs.declared.line.request.Request.{Request}
use Rattle.hub_core.specs.declared.line.request.Request.TheVariants.{Scan, Ask}
use Rattle.hub_core.specs.declared.line.wording.TheConstants.{REPLY_ROOM}
use Rattle.hub_core.specs.Points.{reply}
use Rattle.hub_core.specs.StandsFor.{State, StandsFor}

-- The text has room for one reply, 128 bytes (`REPLY_ROOM`).
abbrev pub HasRoom : String Global → Type 0
HasRoom text = string_len text + REPLY_ROOM ≤ string_capacity text

-- The answer has posted entries. Any other answer needs no memory.
abbrev pub is_posted : Answer → Bool
is_posted (Refused refusal) = false
is_posted Held = false
is_posted (Posted first last) = true

-- A request of station s, after the arrivals A, may need memory or the store: it posts entries, or
-- it is a question.
abbrev pub can_fail : Museum → ℕ → List Entry → List Arrival → ℕ → Request → Bool
can_fail S depth O A s (Scan n message) =
    is_posted (reply S depth O A (record { station = s; n = n; message = message }))
can_fail S depth O A s (Ask code) = true

-- The same of a line. One of an unknown station needs neither.
abbrev pub line_can_fail : Museum → ℕ → List Entry → List Arrival → Option ℕ → Request → Bool
line_can_fail S depth O A None request = false
line_can_fail S depth O A (Some s) request = can_fail S depth O A s request

-- A fault comes only if `can` is true of every list of arrivals that the hub stood for.
abbrev pub FailsOnlyWhere : {R T : Type 0} → (R → Holding) → State R
    → (List Entry → List Arrival → Bool) → Result T HubFault → Type 0
FailsOnlyWhere holding old can result =
    OnErr result ((O : List Entry) (A : List Arrival) → StandsFor holding old O A → can O A ≡ true)
