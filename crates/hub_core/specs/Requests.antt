-- Defines the request in the bytes of a line, or the line's first fault. The order of faults is
-- fixed: the JSON, then the station's text, then the request. Whether the setup has the station is
-- checked last.
use Rattle.std.specs.Prelude.{ℕ, Bool, true, false, List, Option, Some, None, option_and_then}
use Rattle.std.specs.Prelude.{is_some, Result, Ok, Err, if◌then◌else◌}
use Rattle.std.specs.Option.{option_map_or}
use Rattle.std.specs.Str.{is_utf8}
use Rattle.serde_json.specs.Data.{Data}
use Rattle.serde_json.specs.Find.{get, as_number, as_u64, as_object}
use Rattle.serde_json.specs.Read.{read}
use Rattle.nest_core.specs.Museum.{Museum, find_station}
use Rattle.posting_core.specs.declared.message.Message as message
use Rattle.register_store.specs.declared.fault.ReadFault.{ReadFault}
use Rattle.register_store.specs.declared.fault.ReadFault.TheVariants.{NotJson, Missing, BadField}
use Rattle.register_store.specs.declared.key.Key.TheVariants.{Station, N, Message, Ask}
use Rattle.register_store.specs.Spelling.{key_name, is_thing}
use Rattle.register_store.specs.Kinds.{◌spells◌, text_at, fault_at, takes_memory, of_json}
use Rattle.hub_core.specs.declared.line.request.Line.{Line}
use Rattle.hub_core.specs.declared.line.request.Request.{Request}
use Rattle.hub_core.specs.declared.line.request.Request.TheVariants as asks

-- The fault, if there is one, otherwise the answer.
abbrev pub unless : {T : Type 0} → Option ReadFault → Result T ReadFault → Result T ReadFault
unless None answer = answer
unless (Some fault) answer = Err fault

-- The whole number of at most 64 bits that a value is.
abbrev pub whole_number : Data → Option ℕ
whole_number d = option_and_then as_u64 (as_number d)

-- BadField n if the value is not a whole number.
abbrev pub number_or : Option ℕ → Result ℕ ReadFault
number_or None = Err (BadField N)
number_or (Some n) = Ok n

-- The number of a message: Missing n if there is no value.
abbrev pub number_from : Option Data → Result ℕ ReadFault
number_from None = Err (Missing N)
number_from (Some d) = number_or (whole_number d)

-- The message of a line: Missing if there is no value, BadField if it isn't an object, then the
-- first fault of the message itself.
abbrev pub message_from : Option Data → Result message.Message ReadFault
message_from None = Err (Missing Message)
message_from (Some d) = if is_some (as_object d) then of_json d else Err (BadField Message)

-- The line has a message of a kind that takes memory.
abbrev pub has_growing_message : Data → Bool
has_growing_message d = option_map_or takes_memory (get (key_name Message) d) false

-- A message with its number. A fault of the number comes before one of the message.
abbrev pub scan_of : Result ℕ ReadFault → Result message.Message ReadFault
    → Result Request ReadFault
scan_of (Err fault) m = Err fault
scan_of (Ok n) (Err fault) = Err fault
scan_of (Ok n) (Ok m) = Ok (asks.Scan n m)

-- The request of an object. If it has the key `ask` it is a question, and its number and message
-- are ignored.
abbrev pub request_of : Data → Result Request ReadFault
request_of d =
    if is_some (get (key_name Ask) d)
    then unless (fault_at d (Ask spells is_thing)) (Ok (asks.Ask (text_at d Ask)))
    else scan_of (number_from (get (key_name N) d)) (message_from (get (key_name Message) d))

-- The request of a value, whatever its station. NotJson if it isn't an object.
abbrev pub object_of : Data → Result Request ReadFault
object_of d = if is_some (as_object d) then request_of d else Err NotJson

-- NotJson if the bytes weren't JSON.
abbrev pub request_read : Option Data → Result Request ReadFault
request_read None = Err NotJson
request_read (Some d) = object_of d

-- The request in the bytes of a line, whatever its station. A feed has one station, so its lines
-- need none.
abbrev pub request_in : List ℕ → Result Request ReadFault
request_in bytes = if is_utf8 bytes then request_read (read bytes) else Err NotJson

-- The line with this station.
abbrev pub line_with : Option ℕ → Result Request ReadFault → Result Line ReadFault
line_with station (Ok request) = Ok (record { station = station; request = request })
line_with station (Err fault) = Err fault

-- The station and the request of a value. The station may be any string; None if the setup doesn't
-- have it.
abbrev pub line_of : Museum → Data → Result Line ReadFault
line_of S d =
    if is_some (as_object d)
    then unless (fault_at d (Station spells (λ text. true)))
    (line_with (find_station S (text_at d Station)) (request_of d))
    else Err NotJson

-- NotJson if the bytes weren't JSON.
abbrev pub line_read : Museum → Option Data → Result Line ReadFault
line_read S None = Err NotJson
line_read S (Some d) = line_of S d

-- The station and the request in the bytes of a line, or its first fault.
abbrev pub line_in : Museum → List ℕ → Result Line ReadFault
line_in S bytes = if is_utf8 bytes then line_read S (read bytes) else Err NotJson
