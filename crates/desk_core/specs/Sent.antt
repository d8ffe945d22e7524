-- Defines which messages the lines of a desk send. S is the setup, `depth` the depth limit, O the
-- entries posted at the start, A the arrivals so far, and s the desk's own station.
use Rattle.std.specs.Prelude.{ℕ, ◌+◌, ◌==◌, ◌∷◌, [], Bool, false, List, Option, None, Some}
use Rattle.std.specs.Prelude.{Result, Err, Ok, if◌then◌else◌}
use Rattle.nest_core.specs.Museum.{Museum}
use Rattle.posting_core.specs.Book.{Book}
use Rattle.posting_core.specs.Messages.{is_sign_off}
use Rattle.posting_core.specs.declared.entry.Entry.{Entry}
use Rattle.posting_core.specs.declared.message.Message.{Message}
use Rattle.station_core.specs.Runs.{ready}
use Rattle.register_store.specs.declared.fault.ReadFault.{ReadFault}
use Rattle.hub_core.specs.declared.hub.answer.Arrival.{Arrival}
use Rattle.hub_core.specs.declared.line.request.Line.{Line}
use Rattle.hub_core.specs.LineText.{is_too_long, sent_by}
use Rattle.hub_core.specs.Points.{point, posted}
use Rattle.hub_core.specs.Requests.{line_in}
use Rattle.desk_core.specs.declared.desk.Desk.{Desk}
use Rattle.desk_core.specs.declared.said.Rejection.TheVariants.{NotUnderstood}
use Rattle.desk_core.specs.declared.said.Said.{Said}
use Rattle.desk_core.specs.declared.said.Said.TheVariants as says
use Rattle.desk_core.specs.DeskStep.{desk_step}

-- The record after the arrivals.
abbrev pub book : Museum → ℕ → List Entry → List Arrival → Book
book S depth O A = record { museum = S; depth = depth; posted = posted S depth O A }

-- The message of a line under the next number of the station: one more than the longest unbroken
-- run of the numbers that it sent.
abbrev pub own_arrival : Museum → ℕ → List Entry → List Arrival → ℕ → Message → Arrival
own_arrival S depth O A s m = record {
  station = s;
  n = ready is_sign_off (point S depth O A).taken s + 1;
  message = m;
}

abbrev pub is_own : ℕ → Option ℕ → Bool
is_own s None = false
is_own s (Some station) = station == s

-- The arrival of a JSON line. One of the desk's own station isn't taken.
abbrev pub passed : ℕ → Result Line ReadFault → List Arrival
passed s (Ok line) =
    if is_own s line.station then [] else sent_by line.station line.request
passed s (Err fault) = []

-- What a line says, and the desk after it. A line of more than 16,384 bytes isn't understood.
abbrev pub heard : Museum → Desk → List ℕ → Desk × Said
heard S d line =
    if is_too_long line then (d, says.Rejected NotUnderstood) else desk_step S d line

-- The arrivals of a line that says this.
abbrev pub said_arrivals : Museum → ℕ → List Entry → List Arrival → ℕ → List ℕ → Said
    → List Arrival
said_arrivals S depth O A s line (says.Message m) = own_arrival S depth O A s m ∷ []
said_arrivals S depth O A s line says.Line = passed s (line_in S line)
said_arrivals S depth O A s line _ = []
