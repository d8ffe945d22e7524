-- Defines the messages that are known under a station's numbers: those of the record, and those of
-- the lines of a file. They are lists of arrivals, the oldest first, as in hold-back.
use Rattle.std.specs.Prelude.{ℕ, ◌≡◌, ◌==◌, List, [], ◌∷◌, flat_map, map, reverse, nat_eq}
use Rattle.std.specs.Prelude.{Option, Some, None, if◌then◌else◌}
use Rattle.std.specs.Option.{option_or}
use Rattle.std.specs.HashMap.{HashMap, get}
use Rattle.nest_core.specs.Museum.{Museum}
use Rattle.posting_core.specs.declared.entry.Entry.{Entry}
use Rattle.posting_core.specs.declared.message.Message.{Message}
use Rattle.station_core.specs.Runs.{Arrived, arrived, message_at}
use Rattle.hub_core.specs.Lines.{is_empty}
use Rattle.hub_core.specs.Points.{arrival_of}
use Rattle.line_files.specs.declared.reading.Reading.{Reading}
use Rattle.line_files.specs.declared.reading.Reading.TheVariants.{Numbered, Bad}
use Rattle.line_files.specs.Readings.{reading}

abbrev pub Messages : Type 0
Messages = List (Arrived Message)

-- The messages of the record, which lists its entries newest first.
abbrev pub recorded : List Entry → Messages
recorded P = map arrival_of (reverse P)

-- The message of a line, as one of station s.
abbrev pub message_of : ℕ → Reading → Messages
message_of s (Numbered n m) = arrived s n m ∷ []
message_of s (Bad fault) = []

-- A replay skips an empty line.
abbrev pub line_messages : Museum → ℕ → List ℕ → Messages
line_messages S s line = if is_empty line then [] else message_of s (reading S s line)

-- The messages of station s in the lines.
abbrev pub file_messages : Museum → ℕ → List (List ℕ) → Messages
file_messages S s lines = flat_map (line_messages S s) lines

-- The messages under each number, with one more. The first message under a number stays.
abbrev pub with_message : (ℕ → Option Message) → ℕ → Message → ℕ → Option Message
with_message known n m q = option_or (known q) (if n == q then Some m else None)

abbrev pub with_entry : ℕ → (ℕ → Option Message) → Entry → ℕ → Option Message
with_entry s known e q = if e.station == s then with_message known e.n e.message q else known q

abbrev pub with_reading : (ℕ → Option Message) → Reading → ℕ → Option Message
with_reading known (Numbered n m) q = with_message known n m q
with_reading known (Bad fault) q = known q

-- An empty line changes nothing.
abbrev pub with_line : Museum → ℕ → (ℕ → Option Message) → List ℕ → ℕ → Option Message
with_line S s known line q =
    if is_empty line then known q else with_reading known (reading S s line) q

-- The map has the messages of station s under their numbers.
abbrev pub HasMessages : {H : Type 0} → HashMap ℕ Message H → ℕ → Messages → Type 0
HasMessages map s them = (q : ℕ) → get nat_eq map q ≡ message_at them s q
