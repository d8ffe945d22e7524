-- Defines the lines of an audit: each moves a thing to the place where the list saw it.
use Rattle.std.specs.Prelude.{ℕ, ℤ, ◌≡◌, ◌+◌, ◌==◌, ◌&&◌, ◌||◌, nat_lt, nat_le, Bool, List, []}
use Rattle.std.specs.Prelude.{◌∷◌, ◌++◌, Some, filter, is_none, map, slice_get, unwrap_or}
use Rattle.nest_core.specs.Museum.{station_name_of}
use Rattle.posting_core.specs.declared.TheConstants.{LAST_NUMBER}
use Rattle.posting_core.specs.declared.message.Message.{Message}
use Rattle.posting_core.specs.declared.message.Message.TheVariants.{Move}
use Rattle.posting_core.specs.Book.{Book}
use Rattle.count_core.specs.declared.count_row.CountRow.{CountRow}
use Rattle.register_store.specs.SentLines.{sent_line, ReadsAs}
use Rattle.line_files.specs.declared.audits.auditing.AuditOptions.{AuditOptions}
use Rattle.line_files.specs.declared.audits.sightings.Sighting.{Sighting}
use Rattle.line_files.specs.Sightings.{container_holding, seen_elsewhere}

-- The thing lies in no container.
abbrev pub is_loose : Book → Sighting → Bool
is_loose B seen = is_none (container_holding B seen.thing)

abbrev pub move_of : ℤ → Sighting → Message
move_of day seen = Move day seen.thing seen.place

-- The moves of an audit.
abbrev pub moves : Book → ℤ → List CountRow → List Message
moves B day rows = map (move_of day) (filter (is_loose B) (seen_elsewhere B rows))

-- The lines of these messages, numbered from n on. Each ends with a line feed.
abbrev pub lines_from : List ℕ → ℕ → List Message → List ℕ
lines_from station n [] = []
lines_from station n (m ∷ ms) =
    (sent_line station n m ++ 10 ∷ []) ++ lines_from station (n + 1) ms

-- The line of message k of these, from 0, reads back as the message. The numbers begin at `first`.
abbrev pub Reads : List ℕ → ℕ → List Message → ℕ → Type 0
Reads station first ms k =
    (m : Message) → slice_get ms k ≡ Some m
    → ReadsAs station (first + k) m (sent_line station (first + k) m)

abbrev pub EachReads : List ℕ → ℕ → List Message → Type 0
EachReads station first ms = (k : ℕ) → Reads station first ms k

-- This many lines from the first number on have numbers from 1 to 999,999 (`LAST_NUMBER`).
abbrev pub has_numbers : ℕ → ℕ → Bool
has_numbers first count =
    (count == 0) || (nat_lt 0 first && nat_le (first + count) (LAST_NUMBER + 1))

abbrev pub station_text : Book → ℕ → List ℕ
station_text B s = unwrap_or (station_name_of B.museum s) []

-- The lines of an audit.
abbrev pub audit_lines : Book → AuditOptions → List CountRow → List ℕ
audit_lines B options rows =
    lines_from (station_text B options.station) options.first (moves B options.day rows)
