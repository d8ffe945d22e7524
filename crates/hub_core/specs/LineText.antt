-- Defines the text that is written for lines: the reply to each, after the arrivals before it. S is
-- the setup, `depth` the depth limit, O the entries posted at the start, newest first, and A the
-- arrivals so far.
use Rattle.std.specs.Prelude.{ℕ, ◌+◌, ◌||◌, nat_lt, Bool, List, [], ◌∷◌, ◌++◌, length, flat_map}
use Rattle.std.specs.Prelude.{Option, Some, None, unwrap_or, Result, Ok, Err, codes, if◌then◌else◌}
use Rattle.std.specs.List.{concat}
use Rattle.nest_core.specs.Museum.{Museum, station_name_of, place_code_of, thing_code_of}
use Rattle.posting_core.specs.declared.entry.Entry.{Entry}
use Rattle.posting_core.specs.VerdictNames.{verdict_name}
use Rattle.station_core.specs.Refusals.{refusal_name}
use Rattle.register_store.specs.Spelling.{key_name}
use Rattle.register_store.specs.declared.fault.ReadFault.{ReadFault}
use Rattle.register_store.specs.declared.fault.ReadFault.TheVariants.{NotJson, Missing, BadKind}
use Rattle.register_store.specs.declared.fault.ReadFault.TheVariants.{BadField, NoMemory}
use Rattle.hub_core.specs.declared.hub.answer.Arrival.{Arrival}
use Rattle.hub_core.specs.declared.hub.answer.Answer.{Answer}
use Rattle.hub_core.specs.declared.hub.answer.Answer.TheVariants.{Refused, Held, Posted}
use Rattle.hub_core.specs.declared.hub.answer.Where.{Where}
use Rattle.hub_core.specs.declared.hub.answer.Where.TheVariants.{UnknownThing, Unplaced, At}
use Rattle.hub_core.specs.declared.line.request.Line.{Line}
use Rattle.hub_core.specs.declared.line.request.Request.{Request}
use Rattle.hub_core.specs.declared.line.request.Request.TheVariants.{Scan, Ask}
use Rattle.hub_core.specs.declared.line.reply.TheConstants.{LONGEST_LINE}
use Rattle.hub_core.specs.Lines.{is_empty, lines}
use Rattle.hub_core.specs.Requests.{line_in}
use Rattle.hub_core.specs.Points.{posted, reply, whereabouts}
use Rattle.hub_core.specs.Replies.{refused_line, unknown_station_line, held_line, posted_line}
use Rattle.hub_core.specs.Replies.{bad_line, asked_line}

-- The name of a line's fault.
abbrev pub fault_text : ReadFault → List ℕ
fault_text NotJson = codes "NotJson"
fault_text (Missing key) = concat (codes "Missing " ∷ key_name key ∷ [])
fault_text BadKind = codes "BadKind"
fault_text (BadField key) = concat (codes "BadField " ∷ key_name key ∷ [])
fault_text NoMemory = codes "NoMemory"

abbrev pub container_text : Museum → ℕ → List ℕ
container_text S x = codes " " ++ unwrap_or (thing_code_of S x) []

-- The containers above a thing, innermost first: in C2 C1.
abbrev pub chain_text : Museum → List ℕ → List ℕ
chain_text S [] = []
chain_text S (c ∷ cs) = codes " in" ++ flat_map (container_text S) (c ∷ cs)

-- Where a thing is: at S2 in C2 C1.
abbrev pub place_text : Museum → Where → List ℕ
place_text S UnknownThing = codes "unknown"
place_text S Unplaced = codes "unplaced"
place_text S (At place chain) =
    codes "at " ++ unwrap_or (place_code_of S place) [] ++ chain_text S chain

-- A line for each entry from number `first` on. Entries are listed newest first and printed oldest
-- first.
abbrev pub posted_lines : List ℕ → ℕ → List Entry → List ℕ
posted_lines station first [] = []
posted_lines station first (e ∷ P) =
    if nat_lt (length P + 1) first then []
    else posted_lines station first P
    ++ posted_line station e.n (length P + 1) (verdict_name e.verdict)

-- The reply to number n of a station, once the entries P are posted.
abbrev pub answer_text : List ℕ → ℕ → List Entry → Answer → List ℕ
answer_text station n P (Refused refusal) = refused_line station n (refusal_name refusal)
answer_text station n P Held = held_line station n
answer_text station n P (Posted first last) = posted_lines station first P

-- The name of a station.
abbrev pub station_text : Museum → ℕ → List ℕ
station_text S s = unwrap_or (station_name_of S s) []

-- The arrival of a request of station s. A question has none.
abbrev pub sent_from : ℕ → Request → List Arrival
sent_from s (Scan n message) = record { station = s; n = n; message = message } ∷ []
sent_from s (Ask code) = []

-- The arrival of a request, if the setup has its station.
abbrev pub sent_by : Option ℕ → Request → List Arrival
sent_by None request = []
sent_by (Some s) request = sent_from s request

-- The reply to one more arrival after A.
abbrev pub arrival_reply : Museum → ℕ → List Entry → List Arrival → Arrival → List ℕ
arrival_reply S depth O A r =
    answer_text (station_text S r.station) r.n (posted S depth O (A ++ r ∷ []))
    (reply S depth O A r)

-- The reply to a request of station s after A.
abbrev pub station_reply : Museum → ℕ → List Entry → List Arrival → ℕ → Request → List ℕ
station_reply S depth O A s (Scan n message) =
    arrival_reply S depth O A (record { station = s; n = n; message = message })
station_reply S depth O A s (Ask code) =
    asked_line (station_text S s) code (place_text S (whereabouts S (posted S depth O A) code))

-- The reply to line `number`, which has no fault.
abbrev pub request_reply : Museum → ℕ → List Entry → List Arrival → ℕ → Option ℕ → Request → List ℕ
request_reply S depth O A number None request = unknown_station_line number
request_reply S depth O A number (Some s) request = station_reply S depth O A s request

-- The arrival of a line, if it has one.
abbrev pub sent : Result Line ReadFault → List Arrival
sent (Ok line) = sent_by line.station line.request
sent (Err fault) = []

-- The reply to line `number`, by its request or its fault.
abbrev pub read_reply : Museum → ℕ → List Entry → List Arrival → ℕ → Result Line ReadFault → List ℕ
read_reply S depth O A number (Ok line) = request_reply S depth O A number line.station line.request
read_reply S depth O A number (Err fault) = bad_line number (fault_text fault)

-- The line has more bytes than a line may have, 16,384.
abbrev pub is_too_long : List ℕ → Bool
is_too_long line = nat_lt LONGEST_LINE (length line)

-- The arrivals of a line: one or none.
abbrev pub line_arrivals : Museum → List ℕ → List Arrival
line_arrivals S line = if is_empty line || is_too_long line then [] else sent (line_in S line)

-- The reply to line `number` after the arrivals A. An empty line has no reply, and TooLong comes
-- before any other fault.
abbrev pub line_reply : Museum → ℕ → List Entry → List Arrival → ℕ → List ℕ → List ℕ
line_reply S depth O A number line =
    if is_empty line then []
    else (if is_too_long line then bad_line number (codes "TooLong")
    else read_reply S depth O A number (line_in S line))

-- The replies to lines, each after the arrivals of the lines before it. The first has this number.
abbrev pub replies : Museum → ℕ → List Entry → List Arrival → ℕ → List (List ℕ) → List ℕ
replies S depth O A number [] = []
replies S depth O A number (line ∷ rest) =
    line_reply S depth O A number line
    ++ replies S depth O (A ++ line_arrivals S line) (number + 1) rest

-- The text that is written for the bytes.
abbrev pub text : Museum → ℕ → List Entry → List Arrival → List ℕ → List ℕ
text S depth O A bytes = replies S depth O A 1 (lines bytes)

-- The arrivals of the bytes.
abbrev pub arrivals : Museum → List ℕ → List Arrival
arrivals S bytes = flat_map (line_arrivals S) (lines bytes)
