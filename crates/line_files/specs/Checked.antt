-- Defines the lines of a file that no record takes, whatever its setup.
use Rattle.std.specs.Prelude.{ℕ, ◌+◌, ◌==◌, ◌++◌, nat_eq, not, List, [], ◌∷◌, count_by}
use Rattle.std.specs.Prelude.{flat_map, Option, Some, None, Result, Ok, Err, codes, decimal}
use Rattle.std.specs.Prelude.{if◌then◌else◌}
use Rattle.std.specs.List.{starts_with}
use Rattle.nest_core.specs.Museum.{no_museum}
use Rattle.register_store.specs.declared.fault.ReadFault.{ReadFault}
use Rattle.hub_core.specs.declared.line.request.Line.{Line}
use Rattle.hub_core.specs.declared.line.request.Request.{Request}
use Rattle.hub_core.specs.declared.line.request.Request.TheVariants.{Scan, Ask}
use Rattle.hub_core.specs.LineText.{is_too_long}
use Rattle.hub_core.specs.Lines.{is_empty, lines}
use Rattle.hub_core.specs.Requests.{line_in}
use Rattle.line_files.specs.declared.checking.BadLine.{BadLine}
use Rattle.line_files.specs.declared.line_fault.LineFault.{LineFault}
use Rattle.line_files.specs.declared.line_fault.LineFault.TheVariants.{TooLong, Unread, BadNumber}
use Rattle.line_files.specs.Readings.{is_number, fault_text}

-- A question has no number.
abbrev pub request_fault : Request → Option LineFault
request_fault (Scan n m) = if is_number n then None else Some BadNumber
request_fault (Ask code) = None

abbrev pub read_fault : Result Line ReadFault → Option LineFault
read_fault (Ok line) = request_fault line.request
read_fault (Err fault) = Some (Unread fault)

-- The first fault of a line that is not empty. No setup changes it (`laws::faults_need_no_setup`).
abbrev pub line_fault : List ℕ → Option LineFault
line_fault line = if is_too_long line then Some TooLong else read_fault (line_in no_museum line)

abbrev pub fault_at : ℕ → Option LineFault → List BadLine
fault_at row None = []
fault_at row (Some fault) = record { row = row; fault = fault } ∷ []

abbrev pub bad_at : ℕ → List ℕ → List BadLine
bad_at row line = if is_empty line then [] else fault_at row (line_fault line)

-- The bad lines among lines, the first with this number.
abbrev pub bad_from : ℕ → List (List ℕ) → List BadLine
bad_from row [] = []
bad_from row (line ∷ lines) = bad_at row line ++ bad_from (row + 1) lines

abbrev pub bad_lines : List ℕ → List BadLine
bad_lines bytes = bad_from 1 (lines bytes)

-- The number of lines that are not empty.
abbrev pub line_count : List ℕ → ℕ
line_count bytes = count_by (λ line. not (is_empty line)) (lines bytes)

-- fault lines NotJson row 7
abbrev pub bad_text : BadLine → List ℕ
bad_text bad =
    codes "fault lines " ++ fault_text bad.fault ++ codes " row " ++ decimal bad.row ++ codes "\n"

abbrev pub lines_noun : ℕ → List ℕ
lines_noun count = if count == 1 then codes "line" else codes "lines"

-- ok: 120 lines
abbrev pub count_text : ℕ → List ℕ
count_text count = codes "ok: " ++ decimal count ++ codes " " ++ lines_noun count ++ codes "\n"

-- The faults, or the number of lines if there is no fault.
abbrev pub found_text : ℕ → List BadLine → List ℕ
found_text count [] = count_text count
found_text count (bad ∷ more) = flat_map bad_text (bad ∷ more)

abbrev pub check_text : List ℕ → List ℕ
check_text bytes = found_text (line_count bytes) (bad_lines bytes)

-- The `help:` line for a file with faults that does not begin with an opening brace.
abbrev pub check_help : List ℕ → List ℕ
check_help bytes =
    if starts_with nat_eq bytes (codes "{") then []
    else codes "help: a line is a JSON object and begins with {: 'pairsalder lines' makes lines of a table\n"
