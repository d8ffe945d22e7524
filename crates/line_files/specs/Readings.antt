-- Defines what a line is to a station: a message of it with its number, or a line that no record
-- takes, with the cause.
use Rattle.std.specs.Prelude.{ℕ, ◌==◌, ◌&&◌, nat_le, Bool, List, Option, Some, None, Result, Ok}
use Rattle.std.specs.Prelude.{Err, if◌then◌else◌, codes}
use Rattle.nest_core.specs.Museum.{Museum}
use Rattle.posting_core.specs.declared.TheConstants.{LAST_NUMBER}
use Rattle.posting_core.specs.declared.message.Message.{Message}
use Rattle.register_store.specs.declared.fault.ReadFault.{ReadFault}
use Rattle.hub_core.specs.declared.line.request.Line.{Line}
use Rattle.hub_core.specs.declared.line.request.Request.{Request}
use Rattle.hub_core.specs.declared.line.request.Request.TheVariants.{Scan, Ask}
use Rattle.hub_core.specs.LineText as replies
use Rattle.hub_core.specs.LineText.{is_too_long}
use Rattle.hub_core.specs.Requests.{line_in}
use Rattle.line_files.specs.declared.line_fault.LineFault.{LineFault}
use Rattle.line_files.specs.declared.line_fault.LineFault.TheVariants.{TooLong, Unread}
use Rattle.line_files.specs.declared.line_fault.LineFault.TheVariants.{UnknownStation}
use Rattle.line_files.specs.declared.line_fault.LineFault.TheVariants.{OtherStation, Question}
use Rattle.line_files.specs.declared.line_fault.LineFault.TheVariants.{BadNumber, SignedOff}
use Rattle.line_files.specs.declared.reading.Reading.{Reading}
use Rattle.line_files.specs.declared.reading.Reading.TheVariants.{Numbered, Bad}

-- A message may have this number.
abbrev pub is_number : ℕ → Bool
is_number n = nat_le 1 n && nat_le n LAST_NUMBER

abbrev pub numbered : ℕ → Message → Reading
numbered n m = if is_number n then Numbered n m else Bad BadNumber

abbrev pub requested : Request → Reading
requested (Scan n m) = numbered n m
requested (Ask code) = Bad Question

-- The request of a line of this station, if the setup has it.
abbrev pub sent_by : ℕ → Option ℕ → Request → Reading
sent_by s None request = Bad UnknownStation
sent_by s (Some t) request = if t == s then requested request else Bad OtherStation

abbrev pub read_as : ℕ → Result Line ReadFault → Reading
read_as s (Ok line) = sent_by s line.station line.request
read_as s (Err fault) = Bad (Unread fault)

-- What a line is to station s. TooLong comes before any other cause, as in a replay.
abbrev pub reading : Museum → ℕ → List ℕ → Reading
reading S s line = if is_too_long line then Bad TooLong else read_as s (line_in S line)

-- The word of a fault. It is that of a replay's reply, if a replay has one.
abbrev pub fault_text : LineFault → List ℕ
fault_text TooLong = codes "TooLong"
fault_text (Unread fault) = replies.fault_text fault
fault_text UnknownStation = codes "UnknownStation"
fault_text OtherStation = codes "OtherStation"
fault_text Question = codes "Question"
fault_text BadNumber = codes "BadNumber"
fault_text SignedOff = codes "SignedOff"
