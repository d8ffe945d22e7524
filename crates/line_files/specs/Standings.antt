-- Defines how the lines of a station's file stand to the record.
use Rattle.std.specs.Prelude.{ℕ, ◌+◌, ◌-◌, nat_le, nat_lt, min, Bool, List, [], ◌∷◌}
use Rattle.std.specs.Prelude.{◌++◌, fold, map, Option, Some, None, if◌then◌else◌}
use Rattle.std.specs.Str.{bytes_eq}
use Rattle.nest_core.specs.Museum.{Museum}
use Rattle.posting_core.specs.declared.TheConstants.{LAST_NUMBER}
use Rattle.posting_core.specs.declared.message.Message.{Message}
use Rattle.posting_core.specs.Book.{Book}
use Rattle.posting_core.specs.Messages.{is_sign_off}
use Rattle.register_store.specs.MessageText.{body_of}
use Rattle.station_core.specs.Runs.{message_at, ready, is_signed}
use Rattle.hub_core.specs.Lines.{is_empty, lines}
use Rattle.line_files.specs.declared.finding.Finding.{Finding}
use Rattle.line_files.specs.declared.finding.Finding.TheVariants.{Known, New}
use Rattle.line_files.specs.declared.finding.Found.{Found}
use Rattle.line_files.specs.declared.line_fault.LineFault.TheVariants.{SignedOff}
use Rattle.line_files.specs.declared.progress.Progress.{Progress}
use Rattle.line_files.specs.declared.reading.Reading.{Reading}
use Rattle.line_files.specs.declared.reading.Reading.TheVariants as readings
use Rattle.line_files.specs.declared.standing.Compared.{Compared}
use Rattle.line_files.specs.declared.standing.Standing.{Standing}
use Rattle.line_files.specs.declared.standing.Standing.TheVariants.{Same, Other, Next, Waits, Bad}
use Rattle.line_files.specs.Known.{Messages, recorded, line_messages, file_messages}
use Rattle.line_files.specs.Readings.{reading}

-- Two messages are the same if their texts are.
abbrev pub is_same : Message → Message → Bool
is_same m known = bytes_eq (body_of m) (body_of known)

-- A message under number n beside the one that is known under this number, if there is one.
abbrev pub beside : ℕ → Message → Option Message → Finding
beside n m None = New n
beside n m (Some known) = Known (if is_same m known then Same else Other known)

-- What is found of a line, with the messages known before it.
abbrev pub finding : (ℕ → Option Message) → Reading → Finding
finding known (readings.Numbered n m) = beside n m (known n)
finding known (readings.Bad fault) = Known (Bad fault)

-- The same of a line. An empty line has no finding.
abbrev pub line_finding : Museum → ℕ → (ℕ → Option Message) → List ℕ → Option Finding
line_finding S s known line =
    if is_empty line then None else Some (finding known (reading S s line))

abbrev pub found_at : ℕ → Option Finding → List Found
found_at row None = []
found_at row (Some finding) = record { row = row; finding = finding } ∷ []

-- The findings of lines, the first with this number, each with the messages known before it.
abbrev pub findings : Museum → ℕ → Messages → ℕ → List (List ℕ) → List Found
findings S s known row [] = []
findings S s known row (line ∷ lines) =
    found_at row (line_finding S s (message_at known s) line)
    ++ findings S s (known ++ line_messages S s line) (row + 1) lines

-- The lesser of a number and a line's own number, if that is new and above `last`.
abbrev pub lesser : ℕ → ℕ → Finding → ℕ
lesser last least (New n) = if nat_lt last n then min n least else least
lesser last least (Known standing) = least

-- The least new number above `last`, or one that no message has.
abbrev pub least_above : ℕ → List Found → ℕ
least_above last found =
    fold (λ least one. lesser last least one.finding) (LAST_NUMBER + 1) found

-- How far these messages of station s go: the last number before the first that is missing, whether
-- it is the sign-off's, and the least new number above it.
abbrev pub progress_of : ℕ → Messages → List Found → Progress
progress_of s known found = record {
  last = ready is_sign_off known s;
  signed = is_signed is_sign_off known s;
  resumes = least_above (ready is_sign_off known s) found;
}

-- A new number is posted if the file is sent, is above the sign-off, or waits for the numbers that
-- are missing first.
abbrev pub new_standing : Progress → ℕ → Standing
new_standing p n =
    if nat_le n p.last then Next
    else (if p.signed then Bad SignedOff else Waits (p.last + 1) (p.resumes - 1))

abbrev pub standing_of : Progress → Finding → Standing
standing_of p (Known standing) = standing
standing_of p (New n) = new_standing p n

abbrev pub compared : Progress → Found → Compared
compared p found = record { row = found.row; standing = standing_of p found.finding }

-- The findings of a file's bytes.
abbrev pub file_findings : Book → ℕ → List ℕ → List Found
file_findings B s bytes = findings B.museum s (recorded B.posted) 1 (lines bytes)

-- How far the messages of the record and of the file go together.
abbrev pub file_progress : Book → ℕ → List ℕ → Progress
file_progress B s bytes =
    progress_of s (recorded B.posted ++ file_messages B.museum s (lines bytes))
    (file_findings B s bytes)

-- How each line of station s stands to the record.
abbrev pub standings : Book → ℕ → List ℕ → List Compared
standings B s bytes = map (compared (file_progress B s bytes)) (file_findings B s bytes)
